-- Where a job meets peers.
use Rattle.std.specs.Prelude.{ℕ, Option, None, Result, Ok}
use Rattle.mgr_args.specs.declared.job.Job.{Job}
use Rattle.mgr_args.specs.declared.job.Job.TheVariants.{Edit}
use Rattle.mgr_args.specs.declared.job.JobFault.{JobFault}

-- the number of the port, where the command line gives one
abbrev pub port_number : Result Job JobFault → Option ℕ
port_number (Ok (Edit settings)) = settings.port
port_number _ = None
