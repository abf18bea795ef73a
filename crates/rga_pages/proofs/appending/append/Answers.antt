use Rattle.std.proofs.Common.{◌++◌, ◌∷◌, [], List, take, drop, ap, ◌∙◌, append_assoc}
use Rattle.std.proofs.lemmas.List.{take-append-drop, take_rest}
use Rattle.rga_pages.specs.Pages.{Entries, entries_in}
use Rattle.rga_pages.proofs.PartLaws.{flat_push}
use Rattle.rga_pages.proofs.appending.append.Goals as goal

pub returns-clause-ok : goal.returns-clause-ok
returns-clause-ok c =
    let ps : List Entries = c.args.pages.now.items in
    let es : Entries = c.args.entries.now in
    ap entries_in (c.push_reserved.ensures.items ∙ ap (λ y. c.extend_last-2.new.pages.items ++ y ∷ []) (c.in_ok-own.ensures.ok ∙ take_rest es c.room_in_last-room.result))
    ∙ flat_push c.extend_last-2.new.pages.items (drop c.room_in_last-room.result es)
    ∙ ap (λ xs. xs ++ drop c.room_in_last-room.result es) (c.in_ok-extend_last.ensures.ok ∙ ap (λ qs. entries_in qs ++ take c.room_in_last-room.result es) c.in_ok-reserve.ensures.items)
    ∙ append_assoc (entries_in ps) (take c.room_in_last-room.result es) (drop c.room_in_last-room.result es)
    ∙ ap (λ xs. entries_in ps ++ xs) (take-append-drop c.room_in_last-room.result es)
