use Rattle.mg_screen.specs.Layout.{split_layout, removed_layout}
use Rattle.mg_workspace.proofs.ViewportLaws.{show_split, show_remove, show_either}
use Rattle.mg_workspace.proofs.arranging.change_windows.Goals as goal

pub returns-in_ok-split-in-Split-clause-shown : goal.returns-in_ok-split-in-Split-clause-shown
returns-in_ok-split-in-Split-clause-shown g c = λ n all.
    let l = c.args.windows.now in
    show_either c.split.result n l (split_layout l) c.split.new.self c.split.ensures.exact c.split.ensures.same (show_split n l.current l.windows all) all

pub returns-in_ok-remove-in-Remove-clause-shown : goal.returns-in_ok-remove-in-Remove-clause-shown
returns-in_ok-remove-in-Remove-clause-shown g c = λ n all.
    let l = c.args.windows.now in
    show_either c.remove.result n l (removed_layout l) c.remove.new.self c.remove.ensures.exact c.remove.ensures.same (show_remove n l.current l.windows all) all
