-- Open buffers by their names.
use Rattle.std.proofs.Common.{◌≡◌, ◌⊎◌, inl, inr, ◌∙◌, ℕ, ◌<◌, arith, Bool, true, false, nat_lt, List, length, get_or, Option, Some, None, refl, sym, ap, true≢false}
use Rattle.std.specs.Prelude.{encode_utf8_all, chars, if◌then◌else◌}
use Rattle.std.specs.List.{Contains, position_or_len}
use Rattle.std.specs.Str.{is_utf8, all_scalars}
use Rattle.std.proofs.lemmas.Bool.Decides.{nat_tests}
use Rattle.std.proofs.lemmas.List.{get_or_default}
use Rattle.std.proofs.lemmas.List.Elements.{Contains-get_or}
use Rattle.std.proofs.lemmas.List.Quantifiers.{position-Some}
use Rattle.std.proofs.lemmas.List.Sums.{fails_before_first}
use Rattle.std.proofs.lemmas.Slice.Eq.{bytes_eq-Decides}
use Rattle.std.proofs.lemmas.Str.{IsUtf8-from_is_utf8, chars-encodes, encodes-chars}
use Rattle.mg_buffer.specs.OpenState.{OpenState}
use Rattle.mg_workspace.specs.Buffers.{Buffers, buffer_at, no_buffer}
use Rattle.mg_workspace.specs.Names.{buffer_named, is_named}
use Rattle.mg_editor.specs.Holding.{HaveOwnNames, IsOpen}

abbrev pub AreNamed : Buffers → Type 0
AreNamed bs = (b : OpenState) → Contains bs.all b → is_utf8 b.buffer.name ≡ true

named_so : (name : List ℕ) (b : OpenState) → is_utf8 b.buffer.name ≡ true → is_named name b ≡ true → b.buffer.name ≡ encode_utf8_all name
named_so name b text is =
    sym (encodes-chars b.buffer.name (IsUtf8-from_is_utf8 b.buffer.name text)) ∙ ap encode_utf8_all ((bytes_eq-Decides (chars b.buffer.name) name).0 is)

is_named_so : (name : List ℕ) (b : OpenState) → all_scalars name ≡ true → b.buffer.name ≡ encode_utf8_all name → is_named name b ≡ true
is_named_so name b right is = (bytes_eq-Decides (chars b.buffer.name) name).1 (ap chars is ∙ chars-encodes name right)

-- a buffer that is found is open, and has the name
pub record IsFound (name : List ℕ) (bs : Buffers) (i : ℕ) : Type 0 where
  pub within : i < length bs.all
  pub there : Contains bs.all (buffer_at i bs)
  pub named : (buffer_at i bs).buffer.name ≡ encode_utf8_all name

pub found_so : (name : List ℕ) (bs : Buffers) (i : ℕ) → AreNamed bs → buffer_named name bs.all ≡ Some i → IsFound name bs i
found_so name bs i texts is =
    let at = position-Some (is_named name) bs.all i no_buffer is in
    let there = Contains-get_or bs.all i no_buffer at.0 in
    record { within = at.0; there = there; named = named_so name (buffer_at i bs) (texts (buffer_at i bs) there) at.1 }

abbrev first_named : List ℕ → Buffers → ℕ
first_named name bs = position_or_len (is_named name) bs.all

not_after : (first k count : ℕ) → nat_lt first count ≡ false → k < count → k < first
not_after first k count past lt = grind (arith, nat_tests)

-- where none is found, none has the name
pub none_so : (name : List ℕ) (bs : Buffers) → all_scalars name ≡ true → buffer_named name bs.all ≡ None → IsOpen (encode_utf8_all name) bs → ⊥
none_so name bs right none (d, (k, lt, at), is) = by (nat_lt (first_named name bs) (length bs.all)) refl none
  where
    by : (found : Bool) → nat_lt (first_named name bs) (length bs.all) ≡ found → (if found then Some (first_named name bs) else None) ≡ None → ⊥
    by true at e = absurd cc
    by false past e =
        let fails : is_named name (get_or bs.all k d) ≡ false = fails_before_first (is_named name) bs.all k d (not_after (first_named name bs) k (length bs.all) past lt) in
        true≢false (sym (is_named_so name (get_or bs.all k d) right (ap (λ (x : OpenState). x.buffer.name) at ∙ is)) ∙ fails)

-- a buffer of that name is open, or none
pub open_or_not : (name : List ℕ) (bs : Buffers) → all_scalars name ≡ true → AreNamed bs → IsOpen (encode_utf8_all name) bs ⊎ (IsOpen (encode_utf8_all name) bs → ⊥)
open_or_not name bs right texts = by (buffer_named name bs.all) refl
  where
    by : (o : Option ℕ) → buffer_named name bs.all ≡ o → IsOpen (encode_utf8_all name) bs ⊎ (IsOpen (encode_utf8_all name) bs → ⊥)
    by (Some i) is = let f = found_so name bs i texts is in inl (buffer_at i bs, f.there, f.named)
    by None is = inr (none_so name bs right is)

-- two of one name are one
pub same_buffer : (bs : Buffers) (x y : OpenState) → HaveOwnNames bs → Contains bs.all x → Contains bs.all y → x.buffer.name ≡ y.buffer.name → x ≡ y
same_buffer bs x y own (i, li, at) (j, lj, to) is =
    let one : buffer_at i bs ≡ x = get_or_default bs.all i no_buffer x li ∙ at in
    let two : buffer_at j bs ≡ y = get_or_default bs.all j no_buffer y lj ∙ to in
    let name = λ (b : OpenState). b.buffer.name in
    let same : i ≡ j = own i j li lj (ap name one ∙ is ∙ ap name (sym two)) in
    sym one ∙ ap (λ k. buffer_at k bs) same ∙ two
