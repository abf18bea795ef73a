use Rattle.std.proofs.Common.{rules, ◌≡◌, ◌∙◌, ap, subst, sym, drop, map, string_bytes, option_map, Err, IfErr}
use Rattle.std.proofs.lemmas.Result.{IfOk-weaker, IfErr-weaker}
use Rattle.clap.specs.Faults.{is_simple_and_free}
use Rattle.clap.specs.Simple.{app_of, is_simple}
use Rattle.clap.specs.Values.{kind_of}
use Rattle.clap.specs.Walk.{texts}
use Rattle.mgr_args.specs.CommandLine.{command_line, topic_of, wish_of, with_help_flag}
use Rattle.mgr_args.specs.Job.{IsFaultOf, IsFaultOfKind, rows_behind}
use Rattle.mgr_args.specs.Memory.{JobMemory as Memory}
use Rattle.mgr_args.proofs.CommandLineLemmas.{Chooses, chooses, command_line_is_plain, command_line_is_simple, memory_of, wish_fault, word_kinds}
use Rattle.mgr_args.proofs.job.job_of.Goals.{After-drop-words-in-Ok}
use Rattle.mgr_args.proofs.job.job_of.Goals as goal

-- what is chosen of clap's matches is what is wished for
wished : (c : After-drop-words-in-Ok) → Chooses (wish_of (map string_bytes c.args.words.now)) c.topic_of-topic.result (rows_behind c.in-Ok.matches)
wished c =
    let app_is : app_of c.in_ok-command.command ≡ command_line = search rules in
    let given_is : drop 1 (texts c.as_slice.result.now) ≡ with_help_flag (drop 1 (map string_bytes c.args.words.now)) = search rules in
    let topic_is : c.topic_of-topic.result ≡ topic_of (drop 1 (texts c.as_slice.result.now)) = search rules in
    let kinds = c.in-Ok.ensures.kinds (ap is_simple_and_free app_is ∙ command_line_is_simple) in
    let matches = c.in-Ok.ensures.matches (ap is_simple app_is ∙ command_line_is_plain) in
    chooses _ c.args.words.now _ _ _ app_is given_is topic_is kinds (ap (option_map (λ p. p.1)) matches.1)

pub returns-in-Ok-clause-job : goal.returns-in-Ok-clause-job
returns-in-Ok-clause-job c = IfOk-weaker c.chosen.result _ _ (λ j is. (wished c).job j is) c.chosen.ensures.job

pub returns-in-Ok-clause-fault : goal.returns-in-Ok-clause-fault
returns-in-Ok-clause-fault c = IfErr-weaker c.chosen.result _ _ (λ f is. (wished c).fault f is) c.chosen.ensures.fault

pub returns-clause-fault : goal.returns-clause-fault
returns-clause-fault c =
    let app_is : app_of c.in_ok-command.command ≡ command_line = search rules in
    let given_is : drop 1 (texts c.as_slice.result.now) ≡ with_help_flag (drop 1 (map string_bytes c.args.words.now)) = search rules in
    let topic_is : c.topic_of-topic.result ≡ topic_of (drop 1 (texts c.as_slice.result.now)) = search rules in
    let kinds = word_kinds _ c.args.words.now _ app_is given_is in
    let fault = subst (λ topic. IsFaultOfKind topic (kind_of c.in-Err.error) c.fault_of.result) topic_is c.fault_of.ensures in
    wish_fault _ _ _ c.in-Err.error _ kinds (c.in-Err.ensures.kinds (ap is_simple_and_free app_is ∙ command_line_is_simple)) fault

pub returns-in_err-words-clause-fault : goal.returns-in_err-words-clause-fault
returns-in_err-words-clause-fault c =
    let wish = wish_of (map string_bytes c.args.words.now) in
    let memory : c.from_residual.result ≡ Err Memory = search rules in
    subst (λ answer. IfErr answer (IsFaultOf wish)) (sym memory) (memory_of wish)

pub returns-in_err-command-clause-fault : goal.returns-in_err-command-clause-fault
returns-in_err-command-clause-fault c =
    let wish = wish_of (map string_bytes c.args.words.now) in
    let memory : c.from_residual-in_err-command.result ≡ Err Memory = search rules in
    subst (λ answer. IfErr answer (IsFaultOf wish)) (sym memory) (memory_of wish)
