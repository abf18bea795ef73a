use Rattle.mg_workspace.proofs.arranging.follow.Goals as goal

pub go_to-requires : goal.go_to-requires
go_to-requires g c = c.current_viewport-shown.ensures.within _ c.requires.each
