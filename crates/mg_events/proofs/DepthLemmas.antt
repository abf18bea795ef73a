-- A status nests no deeper than a reader of JSON goes, and so it is read back.
use Rattle.std.proofs.Common.{◌≡◌, ℕ, ◌≤◌, List, [], ◌∷◌, ◌++◌, map, Option, Some, None, option_and_then, sym, ap, subst, ◌∙◌, arith, append-nil, lit≤}
use Rattle.std.specs.Borrow.{Bor}
use Rattle.json.specs.Json.{Json, value, if_last, document, max_depth}
use Rattle.json.specs.Token.{Token}
use Rattle.json.specs.Lex.{tokens}
use Rattle.json.specs.Print.{print}
use Rattle.json.specs.Tree.{json_tokens, depth, items_depth, members_depth}
use Rattle.json.proofs.Printed.Trees.{value-json_tokens}
use Rattle.rga_ops.specs.Splice.{Splice}
use Rattle.mg_events.specs.Objects.{Member, items_of, members_of, value_or_null}
use Rattle.mg_events.specs.StatusText.{
  buffer_parts,
  buffer_json,
  splice_parts,
  splice_json,
  prompt_parts,
  prompt_json,
  position_json,
  place_json,
  point_json,
  count_and_text,
  refused_json,
  window_json,
  changes_members,
  members_after_changes,
  status_members,
  status_json,
}
use Rattle.mg_events.specs.declared.status.Status.{Status}

-- what was written of a value, and is read as the tokens that were written, is that value
pub read_back : (j : Json) (ts : List Token) → ts ≡ json_tokens j → tokens (print ts) ≡ ts → depth j ≤ max_depth → document (print (json_tokens j)) ≡ Some j
read_back j ts written read shallow =
    let same : tokens (print (json_tokens j)) ≡ json_tokens j = subst (λ (us : List Token). tokens (print us) ≡ us) written read in
    ap (option_and_then (λ p. if_last p.0 p.1)) (ap (value max_depth) (same ∙ sym (append-nil (json_tokens j))) ∙ value-json_tokens j max_depth [] shallow)

-- ---- how deep lists and members nest

items_shallow : {A : Type 0} (f : A → Json) (n : ℕ) → ((x : A) → depth (f x) ≤ n) → (xs : List A) → items_depth (items_of (map f xs)) ≤ n
items_shallow f n h [] = omega arith
items_shallow f n h (x ∷ xs) = omega (arith, h x, items_shallow f n h xs)

or_null_shallow : {A : Type 0} (f : A → Json) (n : ℕ) → ((x : A) → depth (f x) ≤ n) → (o : Option A) → depth (value_or_null f o) ≤ n
or_null_shallow f n h None = omega arith
or_null_shallow f n h (Some x) = h x

appended : (ms ns : List Member) (n : ℕ) → members_depth (members_of ms) ≤ n → members_depth (members_of ns) ≤ n → members_depth (members_of (ms ++ ns)) ≤ n
appended [] ns n h k = k
appended (m ∷ ms) ns n h k = omega (arith, appended ms ns n (omega arith) k)

-- ---- the members

changes_depth : (o : Option (Bor (List Splice))) → members_depth (members_of (changes_members o)) ≤ 2
unfolding splice_parts
changes_depth None = omega arith
changes_depth (Some splices) = omega (arith, items_shallow splice_json 1 (λ s. lit≤ tt) splices.now)

after_changes_depth : (s : Status) → members_depth (members_of (members_after_changes s)) ≤ 2
unfolding members_after_changes buffer_parts prompt_parts position_json place_json point_json count_and_text
after_changes_depth s =
    let point : depth (point_json s.point) ≤ 2 = lit≤ tt in
    omega (
      arith,
      point,
      or_null_shallow position_json 2 (λ p. lit≤ tt) s.cursor,
      or_null_shallow buffer_json 2 (λ b. lit≤ tt) s.live,
      or_null_shallow prompt_json 2 (λ p. lit≤ tt) s.prompt,
      items_shallow place_json 1 (λ p. lit≤ tt) s.places.now,
      items_shallow refused_json 1 (λ r. lit≤ tt) s.refused.now,
      items_shallow window_json 1 (λ w. lit≤ tt) s.windows.now,
    )

pub status_depth : (s : Status) → depth (status_json s) ≤ max_depth
unfolding status_members buffer_parts
status_depth s =
    let buffer : depth (buffer_json s.buffer) ≤ 2 = lit≤ tt in
    omega (arith, buffer, appended (changes_members s.changes) _ 2 (changes_depth s.changes) (after_changes_depth s))
