-- What was added to what a writer of JSON holds.
use Rattle.std.specs.Prelude.{◌≡◌, ℕ, List, ◌∷◌, ◌++◌}
use Rattle.std.specs.List.{flat_map}
use Rattle.json.specs.Json.{Json}
use Rattle.json.specs.Token.{Token, key}
use Rattle.json.specs.Tree.{json_tokens}
use Rattle.json.specs.Written.{Written}
use Rattle.mg_events.specs.Objects.{Member}

-- these tokens were added, and what stood before them stays
pub record Adds (old new : Written) (ts : List Token) : Type 0 where
  pub before : new.before ≡ old.before
  pub tokens : new.tokens ≡ old.tokens ++ ts

abbrev pub member_tokens : Member → List Token
member_tokens m = key m.0 ∷ json_tokens m.1

-- a value was added
abbrev pub AddsValue : Written → Written → Json → Type 0
AddsValue old new j = Adds old new (json_tokens j)

-- values of an array were added, without its brackets
abbrev pub AddsValues : Written → Written → List Json → Type 0
AddsValues old new js = Adds old new (flat_map json_tokens js)

-- a member was added, with its name
abbrev pub AddsMember : Written → Written → List ℕ → Json → Type 0
AddsMember old new name j = Adds old new (member_tokens (name, j))

-- members of an object were added, without its braces
abbrev pub AddsMembers : Written → Written → List Member → Type 0
AddsMembers old new ms = Adds old new (flat_map member_tokens ms)
