-- Entries in a row: what is told of them, and how they change.
use Rattle.std.specs.Prelude.{◌≡◌, ◌||◌, ℕ, Bool, true, false, List, [], ◌∷◌, ◌++◌, length, filter, map, not, Option, Some, None, if◌then◌else◌}
use Rattle.std.specs.Ordering.{is_gt}
use Rattle.std.specs.List.{list_any, IsDistinct}
use Rattle.rga_ops.specs.Identifier.{Identifier, id_cmp, is_id, is_root}
use Rattle.rga_sequence.specs.declared.entry.Entry.{Entry}

abbrev pub ids : List Entry → List Identifier
ids es = map (λ e. e.id) es

-- an entry has the identifier
abbrev pub has : Identifier → List Entry → Bool
has id es = list_any (λ e. is_id e.id id) es

-- no two entries have one identifier
abbrev pub AreApart : List Entry → Type 0
AreApart es = IsDistinct (λ a b. is_id a.id b.id) es

-- the entry of an identifier, if there is one
abbrev pub entry_of : Identifier → List Entry → Option Entry
entry_of id [] = None
entry_of id (e ∷ es) = if is_id e.id id then Some e else entry_of id es

-- ---- what is visible

abbrev pub visible_entries : List Entry → List Entry
visible_entries es = filter (λ e. not e.deleted) es

abbrev pub visible_count : List Entry → ℕ
visible_count es = length (visible_entries es)

abbrev pub visible_ids : List Entry → List Identifier
visible_ids es = ids (visible_entries es)

-- the characters of the visible entries
abbrev pub visible_text : List Entry → List ℕ
visible_text es = map (λ e. e.ch) (visible_entries es)

-- the entries from the front to that of the identifier, which is the last of them
abbrev pub entries_up_to : Identifier → List Entry → List Entry
entries_up_to id [] = []
entries_up_to id (e ∷ es) = if is_id e.id id then e ∷ [] else e ∷ entries_up_to id es

-- how many visible entries are that of the identifier or stand before it
abbrev pub place_in : Identifier → List Entry → Option ℕ
place_in id es = if has id es then Some (visible_count (entries_up_to id es)) else None

-- ---- changes

-- the entries with what stands behind that of the identifier changed
abbrev pub change_after_entry : Identifier → (List Entry → List Entry) → List Entry → List Entry
change_after_entry id change [] = []
change_after_entry id change (e ∷ es) = if is_id e.id id then e ∷ change es else e ∷ change_after_entry id change es

-- the same; behind the root stand all
abbrev pub change_behind_entry : Identifier → (List Entry → List Entry) → List Entry → List Entry
change_behind_entry id change es = if is_root id then change es else change_after_entry id change es

-- an entry past those of larger identifiers at the front
abbrev pub put_entry_past_larger : Entry → List Entry → List Entry
put_entry_past_larger e [] = e ∷ []
put_entry_past_larger e (x ∷ es) = if is_gt (id_cmp x.id e.id) then x ∷ put_entry_past_larger e es else e ∷ x ∷ es

-- an entry behind its parent, and there past those of larger identifiers (Roh and others 2011)
abbrev pub put_entry : Identifier → Entry → List Entry → List Entry
put_entry parent e es = change_behind_entry parent (put_entry_past_larger e) es

-- entries, each behind the one before it, and the first behind the parent
abbrev pub put_chain : Identifier → List Entry → List Entry → List Entry
put_chain parent [] s = s
put_chain parent (e ∷ es) s = put_chain e.id es (put_entry parent e s)

-- each can go behind the one before it, which is not the root, and than which it is larger; the first behind that of the identifier
abbrev pub CanFollow : Identifier → List Entry → List Entry → Type 0
CanFollow id [] s = Unit {0}
CanFollow id (e ∷ es) s = (is_root id ≡ false) × (is_gt (id_cmp e.id id) ≡ true) × (has e.id s ≡ false) × CanFollow e.id es (put_entry id e s)

-- the first can go behind the parent, and each other behind the one before it
abbrev pub IsChain : Identifier → List Entry → List Entry → Type 0
IsChain parent [] s = Unit {0}
IsChain parent (e ∷ es) s = ((is_root parent || has parent s) ≡ true) × (has e.id s ≡ false) × CanFollow e.id es (put_entry parent e s)

-- the entries without that of an identifier
abbrev pub without_entry : Identifier → List Entry → List Entry
without_entry id es = filter (λ e. not (is_id e.id id)) es

-- the entry, deleted or not
abbrev pub as_marked : Bool → Entry → Entry
as_marked mark e = record { id = e.id; ch = e.ch; deleted = mark }

-- the entries with that of an identifier deleted or not
abbrev pub mark_entry : Bool → Identifier → List Entry → List Entry
mark_entry mark id es = map (λ e. if is_id e.id id then as_marked mark e else e) es

-- a list stands in another in one piece
abbrev pub IsPart : List Entry → List Entry → Type 0
IsPart part whole = (front : List Entry) × (back : List Entry) × (whole ≡ front ++ part ++ back)
