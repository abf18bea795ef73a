-- Lines of a list in which neighbours that are a run stand in one say the operations of the list.
use Rattle.std.proofs.Common.{◌≡◌, ℕ, zero, suc, ◌+◌, ◌-◌, ◌<◌, ◌≤◌, ◌&&◌, List, [], ◌∷◌, ◌++◌, length, take, drop, Option, Some, None, Ok, refl, sym, ap, subst, ◌∙◌, append_assoc, arith}
use Rattle.std.specs.Char.{IsScalar}
use Rattle.std.specs.List.{AllByRecursion}
use Rattle.std.specs.Option.{option_map_or}
use Rattle.std.proofs.lemmas.Bool.{leb-false, and_parts}
use Rattle.std.proofs.lemmas.Option.{cond_some}
use Rattle.std.proofs.lemmas.List.{take-append-drop}
use Rattle.std.proofs.lemmas.List.Elements.{All-from_recursion, recursion_from_All, All-weaker, All-take, All-contains_itself}
use Rattle.std.specs.Prelude.{Contains}
use Rattle.rga_ops.specs.Identifier.{Identifier, is_id}
use Rattle.rga_ops.specs.Operation.{checked}
use Rattle.rga_ops.specs.Content.{Content, join, content_of}
use Rattle.rga_ops.specs.ListAnswer.{AreWellFormed, IsJoinable}
use Rattle.rga_ops.specs.declared.id.TheConstants.Id.{MAX_COUNTER}
use Rattle.rga_ops.specs.declared.op.Op.{Op}
use Rattle.rga_ops.specs.declared.op.Op.TheVariants.{Insert, Delete}
use Rattle.rga_ops.proofs.AnswerLaws.{well_formed_insertion}
use Rattle.rga_ops.proofs.IdentifierLaws.{is_id-is}
use Rattle.rga_lines.specs.declared.run.TheConstants.{MAX_RUN}
use Rattle.rga_exchange.specs.Counting.{Calls, WritesFront, WritesAllBut}
use Rattle.rga_lines.specs.Runs.{stretch, next, run_operations}
use Rattle.rga_lines.specs.Spelling.{IsWritable, IsWritableRun}
use Rattle.rga_lines.specs.Stream.{newline, bytes_of_lines, rest_of}
use Rattle.rga_lines.proofs.NewlineLemmas.{run_has_none}
use Rattle.rga_lines.proofs.ReadBack.{within}
use Rattle.rga_lines.proofs.StandLemmas.{run_stands, run_beginning_stands}
use Rattle.rga_exchange.specs.RunLines.{stretch_line, going_behind, front_characters, front_line, front_count, run_lines_behind, run_lines, runs_text}
use Rattle.rga_exchange.specs.Sending.{AreWritable, StandsFor, GainsFirst, AppendsFirst}
use Rattle.rga_exchange.proofs.AppendedLaws.{ended_lines, stands_joined}
use Rattle.rga_exchange.proofs.GoingOnLemmas.{IsBegun, begun_more, begun_whole}
use Rattle.rga_exchange.proofs.BegunLemmas.{begun_next}
use Rattle.rga_exchange.proofs.BegunLogLaws.{Says, Say, line_says, say_begun, say_stand}

-- ---- what goes on behind an identifier

record IsBehind (last : Identifier) (op : Op) (p : Identifier × ℕ) : Type 0 where
  is : op ≡ Insert (next last) last p.1
  id : p.0 ≡ next last

is_behind : (last : Identifier) (op : Op) (p : Identifier × ℕ) → going_behind last op ≡ Some p → IsBehind last op p
is_behind last (Delete id) p h = absurd cc
is_behind last (Insert id parent ch) p h =
    let found : Identifier × ℕ = (id, ch) in
    let t = cond_some (is_id id (next last) && is_id parent last) found p h in
    let both = and_parts (is_id id (next last)) (is_id parent last) t.0 in
    record {
      is = λ k. Insert (is_id-is id (next last) both.0 k) (is_id-is parent last both.1 k) ((ap (λ (q : Identifier × ℕ). q.1) t.1) k);
      id = sym (ap (λ (q : Identifier × ℕ). q.0) t.1) ∙ is_id-is id (next last) both.0;
    }

-- the insertions of those characters are in front
front_are : (last : Identifier) (room : ℕ) (ops : List Op) → run_operations (next last) last (front_characters last room ops) ≡ take (length (front_characters last room ops)) ops
unfolding front_characters
front_are last zero ops = refl
front_are last (suc room) [] = refl
front_are last (suc room) (op ∷ ops) = grind (arith, is_behind, front_are (next last) room ops)

front_few : (last : Identifier) (room : ℕ) (ops : List Op) → length (front_characters last room ops) ≤ room
unfolding front_characters
front_few last zero ops = omega arith
front_few last (suc room) [] = omega arith
front_few last (suc room) (op ∷ ops) = elim (going_behind last op) as (λ o. length (option_map_or (λ p. p.1 ∷ front_characters p.0 room ops) o []) ≤ suc room) [
  | None ↦ omega arith
  | Some p ↦ omega (arith, front_few p.0 room ops)
]

front_in : (last : Identifier) (room : ℕ) (ops : List Op) → length (front_characters last room ops) ≤ length ops
unfolding front_characters
front_in last zero ops = omega arith
front_in last (suc room) [] = omega arith
front_in last (suc room) (op ∷ ops) = elim (going_behind last op) as (λ o. length (option_map_or (λ p. p.1 ∷ front_characters p.0 room ops) o []) ≤ length (op ∷ ops)) [
  | None ↦ omega arith
  | Some p ↦ omega (arith, front_in p.0 room ops)
]

-- no more are beside an operation than stand behind it
pub count_in : (op : Op) (ops : List Op) → front_count op ops ≤ length ops
count_in (Insert id parent ch) ops = front_in id (MAX_RUN - 1) ops
count_in (Delete id) ops = omega arith

-- ---- a run that is made step by step

abbrev pub front_from : Identifier × List Op → ℕ → List ℕ
front_from s room = front_characters s.0 room s.1

-- These characters are the first of the run that begins with an insertion before operations: this is the last one's
-- identifier, and this what stands behind it.
abbrev pub IsFrontBegun : ℕ → Identifier → ℕ → List Op → List ℕ → Identifier → List Op → Type 0
IsFrontBegun max id ch behind chars last rest = IsBegun front_from max (ch ∷ front_characters id (max - 1) behind) chars (last, rest)

pub front_first : (max : ℕ) (id : Identifier) (ch : ℕ) (behind : List Op) (chars : List ℕ) → 0 < max → chars ≡ ch ∷ [] → IsFrontBegun max id ch behind chars id behind
front_first max id ch behind chars some is =
    subst (λ (cs : List ℕ). IsFrontBegun max id ch behind cs id behind) (sym is) (record { going = refl; room = omega (arith, some) })

one_front : (last : Identifier) (room : ℕ) (op : Op) (ops : List Op) (p : Identifier × ℕ) → going_behind last op ≡ Some p → front_characters last (suc room) (op ∷ ops) ≡ p.1 ∷ front_characters p.0 room ops
unfolding front_characters
one_front last room op ops p h = ap (λ o. option_map_or (λ q. q.1 ∷ front_characters q.0 room ops) o []) h

pub front_next : (max : ℕ) (id : Identifier) (ch : ℕ) (behind : List Op) (chars more : List ℕ) (last : Identifier) (op : Op) (rest later : List Op) (p : Identifier × ℕ)
    → IsFrontBegun max id ch behind chars last rest → length chars < max → rest ≡ op ∷ later → Some p ≡ going_behind last op → more ≡ chars ++ p.1 ∷ [] → IsFrontBegun max id ch behind more p.0 later
front_next max id ch behind chars more last op rest later p begun less parts is put =
    subst (λ (cs : List ℕ). IsFrontBegun max id ch behind cs p.0 later) (sym put)
    (begun_more front_from max (ch ∷ front_characters id (max - 1) behind) chars (last, rest) (p.0, later) p.1 begun less (λ room. ap (front_characters last (suc room)) parts ∙ one_front last room op later p (sym is)))

no_room : (last : Identifier) (room : ℕ) (ops : List Op) → room ≡ 0 → front_characters last room ops ≡ []
unfolding front_characters
no_room last zero ops none = refl
no_room last (suc room) ops none = absurd (omega (arith, none))

pub front_full : (max : ℕ) (id : Identifier) (ch : ℕ) (behind : List Op) (chars : List ℕ) (last : Identifier) (rest : List Op) → IsFrontBegun max id ch behind chars last rest → max ≤ length chars → chars ≡ ch ∷ front_characters id (max - 1) behind
front_full max id ch behind chars last rest begun full = begun_whole front_from max (ch ∷ front_characters id (max - 1) behind) chars (last, rest) begun (no_room last (max - length chars) rest (omega (arith, full)))

none_left : (last : Identifier) (room : ℕ) (ops : List Op) → length ops ≡ 0 → front_characters last room ops ≡ []
unfolding front_characters
none_left last room ops none = grind (arith)

pub front_last : (max : ℕ) (id : Identifier) (ch : ℕ) (behind : List Op) (chars : List ℕ) (last : Identifier) (rest : List Op) → IsFrontBegun max id ch behind chars last rest → length rest ≡ 0 → chars ≡ ch ∷ front_characters id (max - 1) behind
front_last max id ch behind chars last rest begun none = begun_whole front_from max (ch ∷ front_characters id (max - 1) behind) chars (last, rest) begun (none_left last (max - length chars) rest none)

another : (last : Identifier) (room : ℕ) (op : Op) (ops : List Op) → going_behind last op ≡ None → front_characters last room (op ∷ ops) ≡ []
unfolding front_characters
another last zero op ops h = refl
another last (suc room) op ops h = ap (λ o. option_map_or (λ q. q.1 ∷ front_characters q.0 room ops) o []) h

pub front_ends : (max : ℕ) (id : Identifier) (ch : ℕ) (behind : List Op) (chars : List ℕ) (last : Identifier) (op : Op) (rest later : List Op) → IsFrontBegun max id ch behind chars last rest → rest ≡ op ∷ later → None ≡ going_behind last op → chars ≡ ch ∷ front_characters id (max - 1) behind
front_ends max id ch behind chars last op rest later begun parts none =
    begun_whole front_from max (ch ∷ front_characters id (max - 1) behind) chars (last, rest) begun (ap (front_characters last (max - length chars)) parts ∙ another last (max - length chars) op later (sym none))

-- ---- a run that can be written

-- each of these is well-formed, and can be written
abbrev pub IsSayable : Op → Type 0
IsSayable op = IsWritable op × (checked op ≡ Ok tt)

abbrev pub AreSayable : List Op → Type 0
AreSayable ops = AllByRecursion IsSayable ops

sayable : (ops : List Op) → AreWritable ops → AreWellFormed ops → AreSayable ops
sayable ops writable well = recursion_from_All IsSayable ops (All-weaker (Contains ops) IsSayable (λ op m. (writable op m, well op m)) ops (All-contains_itself ops))

sayable_take : (n : ℕ) (ops : List Op) → AreSayable ops → AreSayable (take n ops)
sayable_take n ops h = recursion_from_All IsSayable (take n ops) (All-take IsSayable n ops (All-from_recursion IsSayable ops h))

scalars : (id parent : Identifier) (chars : List ℕ) → AreSayable (run_operations id parent chars) → AllByRecursion IsScalar chars
scalars id parent [] h = tt
scalars id parent (ch ∷ chars) h = (h.0.0.2, scalars (next id) id chars h.1)

ends_within : (id parent : Identifier) (ch : ℕ) (chars : List ℕ) → AreSayable (run_operations id parent (ch ∷ chars)) → id.counter + length (ch ∷ chars) ≤ MAX_COUNTER + 1
ends_within id parent ch [] h = omega (arith, (within id h.0.0.0).counter)
ends_within id parent ch (d ∷ chars) h = omega (arith, ends_within (next id) id d chars h.1)

writable_run : (id parent : Identifier) (ch : ℕ) (chars : List ℕ) → AreSayable (run_operations id parent (ch ∷ chars)) → length (ch ∷ chars) ≤ MAX_RUN → IsWritableRun (stretch id parent (ch ∷ chars))
writable_run id parent ch chars h few = grind (arith, scalars, ends_within, leb-false, well_formed_insertion)

pub run_says : (id parent : Identifier) (ch : ℕ) (chars : List ℕ) → AreSayable (run_operations id parent (ch ∷ chars)) → length (ch ∷ chars) ≤ MAX_RUN → Says (stretch_line (stretch id parent (ch ∷ chars))) (run_operations id parent (ch ∷ chars))
run_says id parent ch [] h few = line_says (Insert id parent ch) h.0.0 h.0.1
run_says id parent ch (d ∷ chars) h few =
    let can = writable_run id parent ch (d ∷ chars) h few in
    record {
      none = run_has_none (stretch id parent (ch ∷ d ∷ chars)) can;
      says = run_stands (stretch id parent (ch ∷ d ∷ chars)) can;
      cut = λ front b back e. run_beginning_stands (stretch id parent (ch ∷ d ∷ chars)) front b back can e;
    }

-- ---- the lines of a list

-- the first line says the operation in front, and those behind it that it has beside
record SaysFront (op : Op) (ops : List Op) : Type 0 where
  own : List Op
  parts : op ∷ ops ≡ own ++ drop (front_count op ops) ops
  says : Says (front_line op ops) own

says_front : (op : Op) (ops : List Op) → AreSayable (op ∷ ops) → SaysFront op ops
says_front (Delete id) ops h = record { own = Delete id ∷ []; parts = refl; says = line_says (Delete id) h.0.0 h.0.1 }
says_front (Insert id parent ch) ops h =
    let chars : List ℕ = front_characters id (MAX_RUN - 1) ops in
    let are : run_operations (next id) id chars ≡ take (length chars) ops = front_are id (MAX_RUN - 1) ops in
    record {
      own = run_operations id parent (ch ∷ chars);
      parts = ap (λ (os : List Op). Insert id parent ch ∷ os) (sym (take-append-drop (length chars) ops) ∙ ap (λ (os : List Op). os ++ drop (length chars) ops) (sym are));
      says = run_says id parent ch chars (h.0, subst AreSayable (sym are) (sayable_take (length chars) ops h.1)) (omega (arith, front_few id (MAX_RUN - 1) ops));
    }

say_behind : (n : ℕ) (ops : List Op) → AreSayable ops → Say (run_lines_behind n ops) (drop n ops)
say_behind zero [] h = refl
say_behind (suc n) [] h = refl
say_behind zero (op ∷ ops) h =
    let front = says_front op ops h in
    (front.own, drop (front_count op ops) ops, front.parts, front.says, say_behind (front_count op ops) ops h.1)
say_behind (suc n) (op ∷ ops) h = say_behind n ops h.1

run_lines_say : (ops : List Op) → AreWritable ops → AreWellFormed ops → Say (run_lines ops) ops
run_lines_say ops writable well = say_behind 0 ops (sayable ops writable well)

-- ---- behind a log

pub runs_appended : (bytes : List ℕ) (c : Content) (ops : List Op) → StandsFor bytes c → rest_of bytes ≡ [] → AreWritable ops → AreWellFormed ops → IsJoinable c ops → StandsFor (bytes ++ runs_text ops) (join c (content_of ops))
runs_appended bytes c ops stands ended writable well joinable = stands_joined bytes c (run_lines ops) ops stands ended (say_stand (run_lines ops) ops (run_lines_say ops writable well)) joinable

pub runs_ended : (bytes : List ℕ) (ops : List Op) → rest_of bytes ≡ [] → AreWritable ops → AreWellFormed ops → rest_of (bytes ++ runs_text ops) ≡ []
runs_ended bytes ops ended writable well = ended_lines bytes (run_lines ops) ended

pub runs_begun : (bytes : List ℕ) (c : Content) (ops : List Op) (front rest : List ℕ) → StandsFor bytes c → rest_of bytes ≡ [] → AreWritable ops → AreWellFormed ops → IsJoinable c ops → front ++ rest ≡ runs_text ops → GainsFirst bytes front c ops
runs_begun bytes c ops front rest stands ended writable well joinable e =
    say_begun bytes c (run_lines ops) ops front rest stands ended (run_lines_say ops writable well) joinable e

-- ---- lines that are written one by one

lines_of_rest : (n : ℕ) (ops : List Op) → run_lines_behind n ops ≡ run_lines (drop n ops)
lines_of_rest zero ops = refl
lines_of_rest (suc n) [] = refl
lines_of_rest (suc n) (op ∷ ops) = lines_of_rest n ops

module _ {W : Type 0} (contents : W → Option (List ℕ)) where
  pub runs_gained : (a b : Calls W) (ops : List Op) → (AreWellFormed ops → AreWritable ops) → WritesFront contents a b (runs_text ops) → AppendsFirst contents a b ops
  runs_gained a b ops writable h = grind (arith, runs_begun)

  -- a block that begins empty, and what was written of it
  pub runs_front : (a b : Calls W) (start text : List ℕ) → start ≡ [] → WritesFront contents a b (start ++ text) → WritesFront contents a b text
  runs_front a b start text none h = subst (λ (l : List ℕ). WritesFront contents a b (l ++ text)) none h

  -- the first line of what was left was added to the block
  pub begun_front : (a b c : Calls W) (text block next : List ℕ) (op : Op) (ops : List Op) (n : ℕ) → n ≡ front_count op ops
      → WritesAllBut contents a b text (block ++ runs_text (op ∷ ops)) → WritesAllBut contents b c (block ++ (front_line op ops ++ newline ∷ [])) next → WritesAllBut contents a c text (next ++ runs_text (drop n ops))
  begun_front a b c text block next op ops n is h k =
      let first : List ℕ = front_line op ops ++ newline ∷ [] in
      let later : List ℕ = bytes_of_lines (run_lines_behind (front_count op ops) ops) in
      let same : later ≡ runs_text (drop n ops) = ap bytes_of_lines (lines_of_rest (front_count op ops) ops) ∙ ap (λ m. runs_text (drop m ops)) (sym is) in
      subst (λ (l : List ℕ). WritesAllBut contents a c text (next ++ l)) same
      (begun_next contents a b c text (block ++ first) later next (subst (WritesAllBut contents a b text) (sym (append_assoc block first later)) h) k)
