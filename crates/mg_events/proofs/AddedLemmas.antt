-- What is added in turn.
use Rattle.std.proofs.Common.{◌≡◌, ◌≤◌, ℕ, List, [], ◌∷◌, ◌++◌, length, map, drop, Ok, refl, sym, ap, subst, ◌∙◌, append_assoc, append-nil}
use Rattle.std.proofs.lemmas.List.{drop_all}
use Rattle.std.specs.List.{flat_map}
use Rattle.std.proofs.lemmas.Grind.{flat_map-append}
use Rattle.json.specs.Json.{Json}
use Rattle.json.specs.Token.{Token, begin_object, end_object, begin_array, end_array, key, string}
use Rattle.json.specs.Tree.{json_tokens, items_tokens, members_tokens}
use Rattle.json.specs.Written.{Written, Writes}
use Rattle.mg_events.specs.Objects.{Member, items_of, members_of, array_of, object_of}
use Rattle.mg_events.specs.Added.{Adds, member_tokens, AddsValue, AddsValues, AddsMembers}

pub nothing : {a : Written} → Adds a a []
nothing {a} = record { before = refl; tokens = sym (append-nil a.tokens) }

pub next : {a b c : Written} {ts us : List Token} → Adds a b ts → Adds b c us → Adds a c (ts ++ us)
next {a} {b} {c} {ts} {us} h k = record {
  before = k.before ∙ h.before;
  tokens = k.tokens ∙ ap (λ (l : List Token). l ++ us) h.tokens ∙ append_assoc a.tokens ts us;
}

pub token : {E : Type 0} {a b : Written} {t : Token} → Writes {E = E} (Ok tt) a b t → Adds a b (t ∷ [])
token h = record { before = h.room.0; tokens = h.ok }

items_tokens-of : (js : List Json) → flat_map json_tokens js ++ end_array ∷ [] ≡ items_tokens (items_of js)
items_tokens-of [] = refl
items_tokens-of (j ∷ js) = append_assoc (json_tokens j) (flat_map json_tokens js) (end_array ∷ []) ∙ ap (λ (l : List Token). json_tokens j ++ l) (items_tokens-of js)

members_tokens-of : (ms : List Member) → flat_map member_tokens ms ++ end_object ∷ [] ≡ members_tokens (members_of ms)
members_tokens-of [] = refl
members_tokens-of (m ∷ ms) = append_assoc (member_tokens m) (flat_map member_tokens ms) (end_object ∷ []) ∙ ap (λ (l : List Token). member_tokens m ++ l) (members_tokens-of ms)

pub array_added : {a b c d : Written} (js : List Json) → Adds a b (begin_array ∷ []) → AddsValues b c js → Adds c d (end_array ∷ []) → AddsValue a d (array_of js)
array_added {a} {b} {c} {d} js h k l = subst (λ (ts : List Token). Adds a d (begin_array ∷ ts)) (items_tokens-of js) (next h (next k l))

pub object_added : {a b c d : Written} (ms : List Member) → Adds a b (begin_object ∷ []) → AddsMembers b c ms → Adds c d (end_object ∷ []) → AddsValue a d (object_of ms)
object_added {a} {b} {c} {d} ms h k l = subst (λ (ts : List Token). Adds a d (begin_object ∷ ts)) (members_tokens-of ms) (next h (next k l))

pub joined : {a b c : Written} (ms ns : List Member) → AddsMembers a b ms → AddsMembers b c ns → AddsMembers a c (ms ++ ns)
joined {a} {b} {c} ms ns h k = subst (λ (ts : List Token). Adds a c ts) (sym (flat_map-append member_tokens ms ns)) (next h k)

-- the same text by another name
pub same_text : {a b : Written} {name x y : List ℕ} → x ≡ y → Adds a b (key name ∷ string x ∷ []) → Adds a b (key name ∷ string y ∷ [])
same_text {a} {b} {name} e h = subst (λ (t : List ℕ). Adds a b (key name ∷ string t ∷ [])) e h

-- ---- a list whose values are added one after the other

-- with what is left, what was added is all of the list
pub record Left (old new : Written) (all rest : List Json) : Type 0 where
  pub before : new.before ≡ old.before
  pub tokens : new.tokens ++ flat_map json_tokens rest ≡ old.tokens ++ flat_map json_tokens all

pub left_none : {A : Type 0} {a b : Written} (f : A → Json) (xs : List A) (k : ℕ) → length xs ≤ k → Left a b (map f xs) (map f (drop k xs)) → AddsValues a b (map f xs)
left_none {A} {a} {b} f xs k ends l =
    let none : Left a b (map f xs) [] = subst (λ (ys : List A). Left a b (map f xs) (map f ys)) (drop_all k xs ends) l in
    record { before = l.before; tokens = sym (append-nil b.tokens) ∙ none.tokens }
