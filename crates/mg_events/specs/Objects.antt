-- Values of JSON from lists.
use Rattle.std.specs.Prelude.{ℕ, List, [], ◌∷◌, map, Option, Some, None, decimal}
use Rattle.json.specs.Json.{Json, null, number, array, object, Items, no_items, item, Members, no_members, member}

-- a member of an object: its name as UTF-8, and its value
abbrev pub Member : Type 0
Member = List ℕ × Json

abbrev pub items_of : List Json → Items
items_of [] = no_items
items_of (j ∷ js) = item j (items_of js)

abbrev pub members_of : List Member → Members
members_of [] = no_members
members_of (m ∷ ms) = member m.0 m.1 (members_of ms)

-- the values between brackets
abbrev pub array_of : List Json → Json
array_of js = array (items_of js)

-- the members between braces, in this order
abbrev pub object_of : List Member → Json
object_of ms = object (members_of ms)

abbrev pub count : ℕ → Json
count n = number (decimal n)

abbrev pub counts : List ℕ → Json
counts ns = array_of (map count ns)

-- `null` for nothing
abbrev pub value_or_null : {A : Type 0} → (A → Json) → Option A → Json
value_or_null f None = null
value_or_null f (Some a) = f a
