-- What each command does stays within the text.
use Rattle.std.proofs.Common.{rules, Bool, List, None, Option, Some, [], arith, drop, false, if◌then◌else◌, length, map, max, min, nat_eq, option_map, refl, replicate, subst, suc, take, true, zero, ℕ, ◌&&◌, ◌++◌, ◌+◌, ◌-◌, ◌<◌, ◌∙◌, ◌∷◌, ◌≡◌, ◌≤◌}
use Rattle.std.specs.Prelude.{Err, Ok, Result, nat_le, nat_lt}
use Rattle.std.specs.List.{slice_index, slice_range}
use Rattle.std.specs.Option.{ok_or}
use Rattle.std.proofs.lemmas.Bool.{and_parts, eqb-false, leb-true, ltb-true}
use Rattle.std.proofs.lemmas.Option.{none-some, same_Some}
use Rattle.std.proofs.lemmas.Bool.Decides.{nat_tests}
use Rattle.rga_ops.specs.Splice.{Splice, text_after}
use Rattle.mg_plain.specs.declared.cases.Casing.{Casing}
use Rattle.mg_plain.specs.declared.cases.Casing.TheVariants.{Capital, Lower, Upper}
use Rattle.mg_plain.specs.declared.command.Command.{Command}
use Rattle.mg_plain.specs.declared.command.Command.TheVariants.{BackwardChar, BackwardWord, BeginningOfLine, CapitalizeWord, CopyRegionAsKill, DeleteBackwardChar, DeleteChar, DowncaseWord, EndOfLine, ExchangePointAndMark, FillParagraph, ForwardChar, ForwardWord, Insert, InsertText, KillLine, KillRegion, KillWord, MarkWholeBuffer, Newline, NewlineAndIndent, NextLine, OpenLine, PreviousLine, ReplaceAll, ReplaceOne, ReplaceRange, ScrollDown, ScrollUp, SearchBackward, SearchForward, SetMarkCommand, TransposeChars, UpcaseWord, Yank}
use Rattle.mg_plain.specs.declared.outcome.Notice.{Notice}
use Rattle.mg_plain.specs.declared.outcome.Notice.TheVariants.{NoMark, SearchFailed, BeginningOfBuffer as AtBeginning, EndOfBuffer}
use Rattle.mg_plain.specs.declared.steps.Direction.{Direction}
use Rattle.mg_plain.specs.declared.steps.Direction.TheVariants.{Backward, Forward}
use Rattle.mg_plain.specs.declared.steps.Piece.TheVariants.{Line, Word}
use Rattle.mg_plain.specs.declared.view.Kind.TheVariants.{Killing}
use Rattle.mg_plain.specs.Cases.{character_splices, first_word_character, recased_char, recasing, recasing_up_to}
use Rattle.mg_plain.specs.Characters.{is_newline, newline_character}
use Rattle.mg_plain.specs.Commands.{effect}
use Rattle.mg_plain.specs.Effect.{Effect, IsWithinText, edit_effect, motion, one_splice, removed_characters}
use Rattle.mg_plain.specs.Splices.{splice}
use Rattle.mg_plain.specs.Gaps.{columns, filling, gaps}
use Rattle.mg_plain.specs.Insertions.{indentation, insert, insertion_effect, newline_and_indent, open_line, typing, yank}
use Rattle.mg_plain.specs.Kills.{deletion_effect, kill_after, kill_effect, kill_region, kill_so_far, kill_up_to}
use Rattle.mg_plain.specs.LineEnds.{begins_line, line_begin, line_end}
use Rattle.mg_plain.specs.Matches.{first_match, last_match, matches, next_match}
use Rattle.mg_plain.specs.Motions.{by_lines, by_words, end_notice, scroll, to_line, vertical_motion}
use Rattle.mg_plain.specs.Paragraphs.{begins_paragraph, ends_paragraph, has_nonblank, paragraph}
use Rattle.mg_plain.specs.Replacement.{all_matches, current_match, last_end, replacement, replacement_effect, replacements, stands_before_point}
use Rattle.mg_plain.specs.Situation.{IsView, Situation}
use Rattle.mg_plain.specs.Spans.{AreRisingSpans, Span}
use Rattle.mg_plain.specs.Steps.{step, steps, steps_up_to}
use Rattle.mg_plain.specs.Words.{begins_word, ends_word, word_end}
use Rattle.mg_plain.proofs.FallingLaws.{AreFalling, IsInside, RiseBetween, edit-within, falls, filter-rising, last_end-within, length_made, motion-within, one_splice-falling, place_after-within, raise, replacement-rising, reverse-falling, weaken}
use Rattle.mg_plain.proofs.MatchLaws.{last_is, stands_within}
use Rattle.mg_plain.proofs.RangeLaws.{FindsWithin, span_chain-rising, greatest_up_to-within, least_found, least_from-within}
use Rattle.mg_plain.proofs.StepLaws.{StaysWithin, steps-within, steps_up_to-within}
use Rattle.mg_plain.proofs.WordLaws.{finds_words}
use Rattle.mg_plain.specs.declared.command.Command.TheVariants.{BeginningOfBuffer, EndOfBuffer as ToEndOfBuffer}

err_ok : {x : Effect} {n : Notice} → ◌≡◌ {A = Result Effect Notice} (Err n) (Ok x) → ⊥
err_ok h = cc

ok_is : {x y : Effect} → ◌≡◌ {A = Result Effect Notice} (Ok x) (Ok y) → x ≡ y
ok_is h = cc

by_ok : (s : Situation) (x e : Effect) → IsInside s x → ◌≡◌ {A = Result Effect Notice} (Ok x) (Ok e) → IsInside s e
by_ok s x e w h = subst (IsInside s) (ok_is h) w

by_if : (s : Situation) (t : Bool) (x : Effect) (n : Notice) (e : Effect) → (t ≡ true → IsInside s x) → ◌≡◌ {A = Result Effect Notice} (if t then Ok x else Err n) (Ok e) → IsInside s e
by_if s t x n e w h = grind arith

by_find : (s : Situation) (o : Option ℕ) (f : ℕ → Effect) (n : Notice) (e : Effect) → ((q : ℕ) → o ≡ Some q → IsInside s (f q)) → ok_or (option_map f o) n ≡ Ok e → IsInside s e
by_find s o f n e w h = grind arith

unless : (s : Situation) (t : Bool) (n : Notice) (r : Result Effect Notice) (e : Effect) → (r ≡ Ok e → t ≡ false → IsInside s e) → ◌≡◌ {A = Result Effect Notice} (if t then Err n else r) (Ok e) → IsInside s e
unless s true n r e w h = absurd (err_ok h)
unless s false n r e w h = w h refl

below : (a b : ℕ) → a ≤ b → (a ≡ b → ⊥) → a + 1 ≤ b
below a b up n = omega (arith, up, n)

-- ---- places

line_end-within : (text : List ℕ) (q : ℕ) → q ≤ length text → (q ≤ line_end text q) × (line_end text q ≤ length text)
line_end-within text q up = least_from-within (λ k. is_newline (slice_index text k)) q (length text) up

word_end-within : (text : List ℕ) (q : ℕ) → q < length text → (q + 1 ≤ word_end text q) × (word_end text q ≤ length text)
word_end-within text q up = least_from-within (ends_word text) (q + 1) (length text) (omega (arith, up))

lines-within : (direction : Direction) (text : List ℕ) → StaysWithin (step Line direction text) (length text)
lines-within direction text = λ q m up h. grind (arith, nat_tests, greatest_up_to-within (begins_line text) (q - 1))

words-within : (direction : Direction) (text : List ℕ) → StaysWithin (step Word direction text) (length text)
words-within direction text = λ q m up h. grind (arith, nat_tests, least_from-within (ends_word text) (q + 1) (length text), greatest_up_to-within (begins_word text) (q - 1))

-- ---- motions

vertical_motion-within : (s : Situation) (q : ℕ) → IsView s → q ≤ length s.text → IsInside s (vertical_motion s q)
vertical_motion-within s q seen place = record { falling = tt; point = place; mark = seen.mark }

to_line-within : (s : Situation) (b : ℕ) → IsView s → b ≤ length s.text → IsInside s (to_line s b)
to_line-within s b seen place = grind (arith, line_end-within, vertical_motion-within)

by_lines-within : (direction : Direction) (n : ℕ) (s : Situation) (e : Effect) → IsView s → by_lines direction n s ≡ Ok e → IsInside s e
by_lines-within direction zero s e seen h = by_ok s (vertical_motion s s.point) e (vertical_motion-within s s.point seen seen.point) h
by_lines-within direction (suc n) s e seen h =
    let begin = greatest_up_to-within (begins_line s.text) s.point in
    by_find s (steps (step Line direction s.text) (suc n) (line_begin s.text s.point)) (to_line s) (end_notice direction) e
    (λ b found. to_line-within s b seen (steps-within (step Line direction s.text) (length s.text) (lines-within direction s.text) (suc n) (line_begin s.text s.point) b (omega (arith, begin, seen.point)) found)) h

scroll-within : (direction : Direction) (rows : ℕ) (s : Situation) (e : Effect) → IsView s → scroll direction rows s ≡ Ok e → IsInside s e
scroll-within direction rows s e seen h =
    let begin = greatest_up_to-within (begins_line s.text) s.point in
    let many : ℕ = max 1 (rows - 2) - 1 in
    by_find s (step Line direction s.text (line_begin s.text s.point)) (λ b. to_line s (steps_up_to (step Line direction s.text) many b)) (end_notice direction) e
    (λ b found. to_line-within s (steps_up_to (step Line direction s.text) many b) seen
    (steps_up_to-within (step Line direction s.text) (length s.text) (lines-within direction s.text) many b (lines-within direction s.text (line_begin s.text s.point) b (omega (arith, begin, seen.point)) found))) h

by_words-within : (direction : Direction) (n : ℕ) (s : Situation) (e : Effect) → IsView s → by_words direction n s ≡ Ok e → IsInside s e
by_words-within direction n s e seen h = search (rules, by_find, motion-within, steps-within, words-within)

-- ---- insertions, deletions, kills

insertion_effect-within : (s : Situation) (put : List ℕ) → IsView s → IsInside s (insertion_effect s put)
insertion_effect-within s put seen = edit-within s (one_splice s.point s.point put) seen (one_splice-falling s.point s.point (length s.text) put (omega arith) seen.point)

typing_point : (text put : List ℕ) (p : ℕ) → p ≤ length text → p + length put ≤ length (text_after text (one_splice p p put))
typing_point text put p up = grind (arith, nat_tests, length_made text (splice p p put))

typing-within : (s : Situation) (put : List ℕ) → IsView s → IsInside s (typing s put)
typing-within s put seen =
    let w = insertion_effect-within s put seen in
    record { falling = w.falling; point = typing_point s.text put s.point seen.point; mark = w.mark }

yank-within : (s : Situation) → IsView s → IsInside s (yank s)
yank-within s seen =
    let w = typing-within s s.kill seen in
    record {
      falling = w.falling;
      point = w.point;
      mark = λ m h.
          let e : s.point ≡ m = same_Some _ _ h in
          let p : s.point + length s.kill ≤ length (text_after s.text (one_splice s.point s.point s.kill)) = w.point in
          omega (arith, e, p);
    }

deletion_effect-within : (s : Situation) (lo hi : ℕ) → IsView s → lo ≤ hi → hi ≤ length s.text → IsInside s (deletion_effect s lo hi)
deletion_effect-within s lo hi seen up within = edit-within s (one_splice lo hi []) seen (one_splice-falling lo hi (length s.text) [] up within)

kill-within : (s : Situation) (lo hi : ℕ) → IsView s → lo ≤ hi → hi ≤ length s.text → IsInside s (kill_effect s lo hi)
kill-within s lo hi seen up within = let w = deletion_effect-within s lo hi seen up within in record { falling = w.falling; point = w.point; mark = w.mark }

-- the region
region : (s : Situation) (f : ℕ → Effect) (e : Effect) → IsView s → ((m : ℕ) → m ≤ length s.text → IsInside s (f m)) → ◌≡◌ {A = Result Effect Notice} (elim s.mark [ None ↦ Err NoMark | Some m ↦ Ok (f m) ]) (Ok e) → IsInside s e
region s f e seen w h = grind arith

-- ---- case

recased_on : (new : ℕ → ℕ → ℕ) (text : List ℕ) (lo count bound : ℕ) → lo + suc count ≤ bound → ((b : ℕ) → lo + count ≤ b → AreFalling b (character_splices new text lo count)) → AreFalling bound (character_splices new text lo (suc count))
recased_on new text lo count bound up rest = grind (arith, nat_tests)

recased : (new : ℕ → ℕ → ℕ) (text : List ℕ) (lo count bound : ℕ) → lo + count ≤ bound → AreFalling bound (character_splices new text lo count)
recased new text lo zero bound up = tt
recased new text lo (suc count) bound up = recased_on new text lo count bound up (recased new text lo count)

recased_length : (new : ℕ → ℕ → ℕ) (text old : List ℕ) (lo count : ℕ) → lo + count ≤ length old → length (text_after old (character_splices new text lo count)) ≡ length old
recased_length new text old lo zero up = refl
recased_length new text old lo (suc count) up =
    let i : ℕ = lo + count in
    let c : Splice = splice i (i + 1) (new i (slice_index text i) ∷ []) in
    elim (nat_eq (new i (slice_index text i)) (slice_index text i)) as (λ b. length (text_after old (if b then character_splices new text lo count else c ∷ character_splices new text lo count)) ≡ length old) [
      | true ↦ recased_length new text old lo count (omega (arith, up))
      | false ↦
          let made : length (take c.lo old ++ c.put ++ drop c.hi old) ≡ c.lo + length c.put + (length old - c.hi) = length_made old c (omega arith) (omega (arith, up)) in
          let one : length c.put ≡ 1 = omega arith in
          let same : length (take c.lo old ++ c.put ++ drop c.hi old) ≡ length old = omega (arith, made, one, up) in
          recased_length new text (take c.lo old ++ c.put ++ drop c.hi old) lo count (omega (arith, same, up)) ∙ same
    ]

recasing-within : (casing : Casing) (s : Situation) (e : Effect) → IsView s → recasing casing s ≡ Ok e → IsInside s e
recasing-within casing s e seen h =
    by_if s (nat_lt s.point (length s.text)) (recasing_up_to casing s (word_end s.text s.point)) EndOfBuffer e
    (λ t.
    let inside : s.point < length s.text = ltb-true s.point (length s.text) t in
    let ends = word_end-within s.text s.point inside in
    let new : ℕ → ℕ → ℕ = recased_char casing (first_word_character s.text s.point) in
    let w = edit-within s (character_splices new s.text s.point (word_end s.text s.point - s.point)) seen (recased new s.text s.point (word_end s.text s.point - s.point) (length s.text) (omega (arith, ends.0, ends.1))) in
    let l = recased_length new s.text s.text s.point (word_end s.text s.point - s.point) (omega (arith, ends.0, ends.1)) in
    record { falling = w.falling; point = omega (arith, l, ends.1); mark = w.mark }) h

-- ---- searches and replaced

match-within : (pattern text : List ℕ) (start i : ℕ) → first_match pattern text start ≡ Some i → (start ≤ i) × (i + length pattern ≤ length text)
match-within pattern text start i h = grind (arith, least_found, stands_within)

finds_matches : (pattern text : List ℕ) → FindsWithin (next_match pattern text) (length text)
finds_matches pattern text = grind (arith, none-some, same_Some, match-within)

all_matches-rising : (pattern : List ℕ) (s : Situation) → IsView s → stands_before_point pattern s ≡ true → AreRisingSpans 0 (length s.text) (all_matches pattern s.text s.point)
all_matches-rising pattern s seen h = (omega arith, omega arith, seen.point, span_chain-rising (next_match pattern s.text) (length s.text) (finds_matches pattern s.text) (length s.text) s.point seen.point)

replacements-falling : (put : List ℕ) (n : ℕ) (ms : List Span) → AreRisingSpans 0 n ms → AreFalling n (replacements put ms)
replacements-falling put n ms r = reverse-falling 0 n (map (replacement put) ms) (omega arith) (replacement-rising put 0 n ms r)

replacement_effect-within : (pattern put : List ℕ) (s : Situation) → IsView s → stands_before_point pattern s ≡ true → IsInside s (replacement_effect put (all_matches pattern s.text s.point) s)
replacement_effect-within pattern put s seen h =
    let ms : List Span = all_matches pattern s.text s.point in
    let r = all_matches-rising pattern s seen h in
    let f = replacements-falling put (length s.text) ms r in
    let w = edit-within s (replacements put ms) seen f in
    record { falling = f; point = place_after-within s.text (replacements put ms) (last_end s.point ms) f (last_end-within s.point (length s.text) (matches pattern s.text s.point) seen.point r.3); mark = w.mark }

-- ---- filled

gaps-rising : (column : ℕ) (used : Option ℕ) (at end : ℕ) (ws : List Span) → at ≤ end → AreRisingSpans at end ws → RiseBetween at end (gaps column used at end ws)
gaps-rising column used at end [] up r = (omega arith, up, omega arith, tt)
gaps-rising column used at end (w ∷ ws) up r =
    (omega arith, r.0, omega (arith, r.1, r.2), raise w.hi w.lo end (gaps column (Some (columns column used w)) w.hi end ws) r.1 (gaps-rising column (Some (columns column used w)) w.hi end ws r.2 r.3))

filling-falling : (column : ℕ) (text : List ℕ) (lo hi : ℕ) → lo ≤ hi → AreFalling hi (filling column text (record { lo = lo; hi = hi }))
filling-falling column text lo hi up = search (rules, gaps-rising, span_chain-rising, finds_words, reverse-falling, filter-rising)

fill-within : (column : ℕ) (s : Situation) → IsView s → (b : Bool) → IsInside s (edit_effect s (if b then filling column s.text (paragraph s.text s.point) else []))
fill-within column s seen true =
    let begin = greatest_up_to-within (begins_paragraph s.text) s.point in
    let ends = least_from-within (ends_paragraph s.text) s.point (length s.text) seen.point in
    let p : Span = paragraph s.text s.point in
    edit-within s (filling column s.text p) seen (weaken p.hi (length s.text) (filling column s.text p) ends.1 (filling-falling column s.text p.lo p.hi (omega (arith, begin, ends.0))))
fill-within column s seen false = edit-within s [] seen tt

-- ---- all commands

effect-inside : (c : Command) (n : ℕ) (s : Situation) (column : ℕ) (e : Effect) → IsView s → effect c n s column ≡ Ok e → IsInside s e
effect-inside (Insert ch) n s column e seen h = by_ok s (insert ch n s) e (typing-within s (replicate n ch) seen) h
effect-inside Newline n s column e seen h = by_ok s (insert newline_character n s) e (typing-within s (replicate n newline_character) seen) h
effect-inside OpenLine n s column e seen h = by_ok s (open_line n s) e (insertion_effect-within s (replicate n newline_character) seen) h
effect-inside NewlineAndIndent n s column e seen h = by_ok s (newline_and_indent s) e (typing-within s (newline_character ∷ indentation s) seen) h
effect-inside ForwardChar n s column e seen h =
    by_if s (nat_le (s.point + n) (length s.text)) (motion s (s.point + n)) EndOfBuffer e (λ t. motion-within s (s.point + n) seen (leb-true (s.point + n) (length s.text) t)) h
effect-inside BackwardChar n s column e seen h = by_if s (nat_le n s.point) (motion s (s.point - n)) AtBeginning e (λ t. motion-within s (s.point - n) seen (omega (arith, seen.point))) h
effect-inside BeginningOfLine n s column e seen h =
    let begin = greatest_up_to-within (begins_line s.text) s.point in
    by_ok s (motion s (line_begin s.text s.point)) e (motion-within s (line_begin s.text s.point) seen (omega (arith, begin, seen.point))) h
effect-inside EndOfLine n s column e seen h = by_ok s (motion s (line_end s.text s.point)) e (motion-within s (line_end s.text s.point) seen (line_end-within s.text s.point seen.point).1) h
effect-inside BeginningOfBuffer n s column e seen h = by_ok s (motion s 0) e (motion-within s 0 seen (omega arith)) h
effect-inside ToEndOfBuffer n s column e seen h = by_ok s (motion s (length s.text)) e (motion-within s (length s.text) seen (omega arith)) h
effect-inside NextLine n s column e seen h = by_lines-within Forward n s e seen h
effect-inside PreviousLine n s column e seen h = by_lines-within Backward n s e seen h
effect-inside (ScrollUp rows) n s column e seen h = scroll-within Forward rows s e seen h
effect-inside (ScrollDown rows) n s column e seen h = scroll-within Backward rows s e seen h
effect-inside ForwardWord n s column e seen h = by_words-within Forward n s e seen h
effect-inside BackwardWord n s column e seen h = by_words-within Backward n s e seen h
effect-inside DeleteChar n s column e seen h =
    by_if s (nat_le (s.point + n) (length s.text)) (deletion_effect s s.point (s.point + n)) EndOfBuffer e (λ t. deletion_effect-within s s.point (s.point + n) seen (omega arith) (leb-true (s.point + n) (length s.text) t)) h
effect-inside DeleteBackwardChar n s column e seen h = by_if s (nat_le n s.point) (deletion_effect s (s.point - n) s.point) AtBeginning e (λ t. deletion_effect-within s (s.point - n) s.point seen (omega arith) seen.point) h
effect-inside KillLine n s column e seen h =
    let hi : ℕ = max (line_end s.text s.point) (s.point + 1) in
    let ends = line_end-within s.text s.point seen.point in
    by_if s (nat_lt s.point (length s.text)) (kill_effect s s.point hi) EndOfBuffer e (λ t. let l : s.point < length s.text = ltb-true s.point (length s.text) t in kill-within s s.point hi seen (omega (arith, ends.0)) (omega (arith, l, ends.1))) h
effect-inside KillWord n s column e seen h =
    by_if s (nat_lt s.point (length s.text)) (kill_effect s s.point (word_end s.text s.point)) EndOfBuffer e
    (λ t. let ends = word_end-within s.text s.point (ltb-true s.point (length s.text) t) in kill-within s s.point (word_end s.text s.point) seen (omega (arith, ends.0)) ends.1) h
effect-inside KillRegion n s column e seen h =
    region s (λ m. kill_effect s (min s.point m) (max s.point m)) e seen (λ m up. kill-within s (min s.point m) (max s.point m) seen (omega arith) (omega (arith, up, seen.point))) h
effect-inside CopyRegionAsKill n s column e seen h =
    region s (λ m. record (motion s s.point) { kill = Some (slice_range s.text (min s.point m) (max s.point m)) }) e seen (λ m up. record { falling = tt; point = seen.point; mark = seen.mark }) h
effect-inside Yank n s column e seen h = by_ok s (yank s) e (yank-within s seen) h
effect-inside SetMarkCommand n s column e seen h =
    by_ok s (record (motion s s.point) { mark = Some s.point }) e (record { falling = tt; point = seen.point; mark = λ m k. let same : s.point ≡ m = same_Some _ _ k in omega (arith, same, seen.point) }) h
effect-inside ExchangePointAndMark n s column e seen h =
    region s (λ m. record (motion s m) { mark = Some s.point }) e seen (λ m up. record { falling = tt; point = up; mark = λ k g. let same : s.point ≡ k = same_Some _ _ g in omega (arith, same, seen.point) }) h
effect-inside MarkWholeBuffer n s column e seen h =
    by_ok s (record (motion s 0) { mark = Some (length s.text) }) e (record { falling = tt; point = omega arith; mark = λ m k. let same : length s.text ≡ m = same_Some _ _ k in omega (arith, same) }) h
effect-inside TransposeChars n s column e seen h =
    let both : List Splice = splice (s.point - 1) (s.point + 1) (slice_index s.text s.point ∷ slice_index s.text (s.point - 1) ∷ []) ∷ [] in
    unless s (nat_eq s.point 0) AtBeginning (if nat_eq s.point (length s.text) then Err EndOfBuffer else Ok (edit_effect s both)) e
    (λ g _. unless s (nat_eq s.point (length s.text)) EndOfBuffer (Ok (edit_effect s both)) e
    (λ k not_last. by_ok s (edit_effect s both) e (edit-within s both seen (omega arith, below s.point (length s.text) seen.point (eqb-false s.point (length s.text) not_last), tt)) k) g) h
effect-inside UpcaseWord n s column e seen h = recasing-within Upper s e seen h
effect-inside DowncaseWord n s column e seen h = recasing-within Lower s e seen h
effect-inside CapitalizeWord n s column e seen h = recasing-within Capital s e seen h
effect-inside (SearchForward pattern start) n s column e seen h =
    by_find s (first_match pattern s.text start) (λ i. motion s (i + length pattern)) SearchFailed e (λ i found. motion-within s (i + length pattern) seen (match-within pattern s.text start i found).1) h
effect-inside (SearchBackward pattern start) n s column e seen h =
    by_find s (last_match pattern s.text start) (motion s) SearchFailed e
    (λ i found. let last = last_is pattern s.text start i found in motion-within s i seen (omega (arith, last.0, last.1.below))) h
effect-inside (ReplaceOne pattern put) n s column e seen h =
    by_if s (stands_before_point pattern s) (edit_effect s (replacements put (current_match pattern s.point ∷ []))) SearchFailed e
    (λ t. edit-within s (replacements put (current_match pattern s.point ∷ [])) seen (omega arith, seen.point, tt)) h
effect-inside (ReplaceAll pattern put) n s column e seen h =
    by_if s (stands_before_point pattern s) (replacement_effect put (all_matches pattern s.text s.point) s) SearchFailed e (λ t. replacement_effect-within pattern put s seen t) h
effect-inside (InsertText put) n s column e seen h = by_ok s (typing s put) e (typing-within s put seen) h
effect-inside (ReplaceRange lo hi put) n s column e seen h =
    by_if s (nat_le lo hi && nat_le hi (length s.text)) (edit_effect s (one_splice lo hi put)) EndOfBuffer e
    (λ t.
    let both = and_parts (nat_le lo hi) (nat_le hi (length s.text)) t in
    edit-within s (one_splice lo hi put) seen (one_splice-falling lo hi (length s.text) put (leb-true lo hi both.0) (leb-true hi (length s.text) both.1))) h
effect-inside FillParagraph n s column e seen h = by_ok s (edit_effect s (if has_nonblank s.text (line_begin s.text s.point) then filling column s.text (paragraph s.text s.point) else [])) e (fill-within column s seen (has_nonblank s.text (line_begin s.text s.point))) h

pub effect-within : (command : Command) (n : ℕ) (s : Situation) (column : ℕ) (e : Effect) → IsView s → effect command n s column ≡ Ok e → IsWithinText s e
effect-within command n s column e seen h =
    let inside = effect-inside command n s column e seen h in
    record { falling = falls (length s.text) e.splices inside.falling; point = inside.point; mark = inside.mark }

-- ---- what kills take, and what case keeps

-- what the kill buffer holds after a kill: what was there, if the command before killed, and what was taken
abbrev Takes : Situation → Effect → Type 0
Takes s e = kill_after s.last s.kill e.kind e.kill ≡ kill_so_far s.last s.kill Killing ++ removed_characters s.text e.splices

kill-takes : (s : Situation) (lo hi : ℕ) → Takes s (kill_effect s lo hi)
kill-takes s lo hi = grind (arith, nat_tests)

pub kill_up_to-takes : (s : Situation) (hi : ℕ) (e : Effect) → kill_up_to s hi ≡ Ok e → Takes s e
kill_up_to-takes s hi e h = let same : kill_effect s s.point hi ≡ e = grind arith in subst (Takes s) same (kill-takes s s.point hi)

pub kill_region-takes : (s : Situation) (e : Effect) → kill_region s ≡ Ok e → Takes s e
kill_region-takes s e h = grind arith

pub recasing-keeps : (casing : Casing) (s : Situation) (e : Effect) → IsView s → recasing casing s ≡ Ok e → length (text_after s.text e.splices) ≡ length s.text
recasing-keeps casing s e seen h =
    grind (arith, nat_tests, word_end-within s.text s.point, recased_length (recased_char casing (first_word_character s.text s.point)) s.text s.text s.point (word_end s.text s.point - s.point))
