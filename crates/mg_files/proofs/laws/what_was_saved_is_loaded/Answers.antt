use Rattle.mg_files.proofs.LogSteps.{saved_again, save_answered, text_is_put}
use Rattle.mg_files.proofs.laws.what_was_saved_is_loaded.Goals as goal

pub returns : goal.returns
returns c = record { logged = save_answered; loaded = saved_again; text = text_is_put }
