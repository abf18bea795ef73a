-- What a replica holds: insertions and deletions, as a set. Where contents are equal they are one value.
use Rattle.std.specs.Prelude.{◌≡◌, ◌≢◌, ◌≤◌, ℕ, true, List, [], ◌∷◌, ◌++◌, map, Option, Some, Ok, Contains, max, ◌↔◌, refl}
use Rattle.std.specs.Option.{option_map}
use Rattle.std.specs.Coded.{Coded, code_by, coded×, coded_ℕ}
use Rattle.std.specs.FinMap as finite_map
use Rattle.std.specs.FinSet as finite_set
use Rattle.std.specs.FinMap.{FinMap}
use Rattle.std.specs.FinSet.{FinSet}
use Rattle.rga_ops.specs.Identifier.{Identifier, identifier_code, id_cmp}
use Rattle.rga_ops.specs.Operation.{checked}
use Rattle.rga_ops.specs.declared.op.Op.{Op}
use Rattle.rga_ops.specs.declared.op.Op.TheVariants.{Insert, Delete}

-- what an insertion says of its identifier
pub record Element : Type 0 where
  pub parent : Identifier
  pub ch : ℕ

abbrev pub element : Identifier → ℕ → Element
element parent ch = record { parent = parent; ch = ch }

abbrev pub element_code : Coded Element
element_code = code_by (Identifier × ℕ) (coded× identifier_code coded_ℕ) (λ e. (e.parent, e.ch)) (λ p. element p.0 p.1) (λ _. refl)

-- The insertions by identifier, and the deleted identifiers. A deletion may be known before its insertion.
pub record Content : Type 0 where
  pub inserted : FinMap id_cmp Element
  pub deleted : FinSet id_cmp

abbrev pub content_code : Coded Content
content_code =
    code_by (FinMap id_cmp Element × FinSet id_cmp) (coded× (finite_map.code identifier_code element_code) (finite_set.code identifier_code)) (λ c. (c.inserted, c.deleted)) (λ p. record { inserted = p.0; deleted = p.1 }) (λ _. refl)

abbrev pub nothing : Content
nothing = record { inserted = finite_map.empty; deleted = finite_set.empty }

-- the parent and the character of an identifier, if it is inserted
abbrev pub element_at : Content → Identifier → Option (Identifier × ℕ)
element_at c id = option_map (λ x. (x.parent, x.ch)) (finite_map.get c.inserted id)

-- the identifiers that are inserted, deleted or both
abbrev pub known_ids : Content → FinSet id_cmp
known_ids c = finite_set.union (finite_set.from_list (finite_map.keys c.inserted)) c.deleted

-- how many they are
abbrev pub known_count : Content → ℕ
known_count c = finite_set.len (known_ids c)

-- the operation is in the content
abbrev pub Holds : Content → Op → Type 0
Holds c (Insert id parent ch) = finite_map.get c.inserted id ≡ Some (element parent ch)
Holds c (Delete id) = finite_set.contains c.deleted id ≡ true

-- the content has another insertion of the operation's identifier
abbrev pub HasAnother : Content → Op → Type 0
HasAnother c (Insert id parent ch) = (x : Element) × (finite_map.get c.inserted id ≡ Some x) × (x ≢ element parent ch)
HasAnother c (Delete id) = ⊥

-- each operation of the content is well-formed
abbrev pub IsSound : Content → Type 0
IsSound c = (op : Op) → Holds c op → checked op ≡ Ok tt

-- ---- agreement and join

-- no identifier names two insertions
abbrev pub Agree : Content → Content → Type 0
Agree c d = (id : Identifier) (x y : Element) → finite_map.get c.inserted id ≡ Some x → finite_map.get d.inserted id ≡ Some y → x ≡ y

-- each insertion and each deletion of the first is in the second
pub record IsWithin (c d : Content) : Type 0 where
  pub inserted : (id : Identifier) (x : Element) → finite_map.get c.inserted id ≡ Some x → finite_map.get d.inserted id ≡ Some x
  pub deleted : (id : Identifier) → finite_set.contains c.deleted id ≡ true → finite_set.contains d.deleted id ≡ true

-- the insertions of both; where they do not agree, that of the first counts
abbrev pub union : FinMap id_cmp Element → FinMap id_cmp Element → FinMap id_cmp Element
union m n = finite_map.from_entries (finite_map.entries m ++ finite_map.entries n)

-- the union of both parts
abbrev pub join : Content → Content → Content
join c d = record { inserted = union c.inserted d.inserted; deleted = finite_set.union c.deleted d.deleted }

-- ---- lists of operations

-- the content of one operation
abbrev pub single : Op → Content
single (Insert id parent ch) = record { inserted = finite_map.insert finite_map.empty id (element parent ch); deleted = finite_set.empty }
single (Delete id) = record { inserted = finite_map.empty; deleted = finite_set.insert finite_set.empty id }

-- the content of a list of operations: its insertions, and its deletions
abbrev pub content_of : List Op → Content
content_of [] = nothing
content_of (op ∷ ops) = join (single op) (content_of ops)

-- no identifier has two different insertions in the list
abbrev pub IsAgreed : List Op → Type 0
IsAgreed ops = (id parent other : Identifier) (ch char : ℕ) → Contains ops (Insert id parent ch) → Contains ops (Insert id other char) → (parent ≡ other) × (ch ≡ char)

-- the lists have the same operations, in any order and with any repeats
abbrev pub HasSameOperations : List Op → List Op → Type 0
HasSameOperations xs ys = (op : Op) → Contains xs op ↔ Contains ys op

-- ---- clock

abbrev pub greatest : List ℕ → ℕ
greatest [] = 0
greatest (n ∷ ns) = max n (greatest ns)

-- the greatest counter among the insertions, their parents and the deletions; 0 where there is none
abbrev pub clock_of : Content → ℕ
clock_of c =
    max (greatest (map (λ id. id.counter) (finite_map.keys c.inserted)))
    (max (greatest (map (λ x. x.parent.counter) (finite_map.values c.inserted)))
    (greatest (map (λ id. id.counter) (finite_set.items c.deleted))))

-- no counter in the content is above the bound
pub record HasCountersWithin (c : Content) (n : ℕ) : Type 0 where
  pub own : (id : Identifier) (x : Element) → finite_map.get c.inserted id ≡ Some x → id.counter ≤ n
  pub parents : (id : Identifier) (x : Element) → finite_map.get c.inserted id ≡ Some x → x.parent.counter ≤ n
  pub deleted : (id : Identifier) → finite_set.contains c.deleted id ≡ true → id.counter ≤ n
