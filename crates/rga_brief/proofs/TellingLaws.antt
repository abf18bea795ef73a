-- What a claim says and how it is spelled, and a summary that is heard as it was told.
use Rattle.rga_brief.proofs.Prelude.{◌≡◌, ℕ, ◌+◌, ◌*◌, ◌/◌, ◌%◌, ◌^◌, ◌<◌, ◌≤◌, cond, lt-ltb, List, [], ◌∷◌, length, refl, ap, ◌∙◌, arith, lit<, ◌≢◌, Bool, true, false, not, ◌&&◌, ◌==◌, ◌++◌, codes, decimal, sym, true≢false, map, subst, append_assoc, append-nil, lit≤, Option, Some, None, Result, Ok, Err, IfOk, OnOk, Vec, option_and_then, depth, Data, max_depth, read, of_json, Block, Claim, digest_of, with_digests, claim_with, claim_of, claim_data, IsInRange, IsDigest, pair_text, part_text, claim_in, digest_data, pair_data, All, list_all, AllByRecursion, AllPass-from_list_all, has_float, compact_text, outline, IsUtf8, is_utf8, eq-eqb, length-append, All-nil, All-cons, IsUtf8-append, is_utf8-from_IsUtf8, Content, Calls, Writes, WritesFront, HasNoNewline, lines_of, rest_of, MAX_LINE, IsUtf8-decimal, read_tokens, end_back, cut_again, ReceiveFault, Summary, IsSummary, claims_of, summary_from, claim_line_at, end_said, IsTold, TellsSummary, claim_lines, summary_text, after_claim_line, lines_heard, summary_heard, One, Last, known_count}
use Rattle.std.proofs.Math.Nat.{div-lt_iff_lt-mul, div-le_self, mod-le}
use Rattle.rga_brief.specs.Claims.{block_of, claim_line}
use Rattle.std.proofs.lemmas.Bool.Decides.{nat_tests}
use Rattle.std.proofs.lemmas.Fmt.{decimal_by_steps, length-decimal-le}
use Rattle.std.proofs.lemmas.List.Folds.{list_all-append}
use Rattle.serde_json.proofs.OnLiterals.{serde_json_on_literals}
use Rattle.json.specs.Lex.{tokens}
use Rattle.json.proofs.Printed.Decimals.{IsNumber-decimal}
use Rattle.json.proofs.Printed.Tokens.{tokens-print}
use Rattle.json.proofs.Printed.Trees.{ArePrintable-json_tokens}
use Rattle.json.proofs.Printed.Utf8.{IsUtf8-are_ascii}
use Rattle.serde_json.proofs.Numbers.{number_of-decimal}
use Rattle.serde_json.proofs.Texts.{print-outline}
use Rattle.rga_lines.specs.Spelling.{end_line}
use Rattle.rga_lines.proofs.NewlineLemmas.{end_has_none}
use Rattle.rga_lines.proofs.SpellingLemmas.{end_data, compact_end}
use Rattle.rga_exchange.specs.declared.fault.ReceiveFault.TheVariants.{Count, Refused}
use Rattle.rga_ops.specs.declared.refusal.Refusal.TheVariants.{Full}
use Rattle.rga_brief.proofs.CountLaws.{few_claims}
use Rattle.std.proofs.Math.Nat.{le_trans}
use Rattle.rga_brief.proofs.OneSummary.{one_summary, comes_back}
use Rattle.rga_brief.proofs.LineLaws.{said}
use Rattle.json.specs.Tree as tree

-- ---- the JSON of a claim says that claim

-- ---- a digest

whole : (n d : ℕ) → 0 < n → (d / n) * n + d % n ≡ d
whole n d h = omega arith

part_small : (n d : ℕ) → 0 < n → d % n < n
part_small n d h = omega arith

high_small : (n d e : ℕ) → 0 < n → e ≡ n * n → d < e → d / n < n
high_small n d e some is h = (div-lt_iff_lt-mul some).1 (omega (arith, is))

digest_back : (d : ℕ) → d < 2 ^ 64 → digest_of (d / 4294967296, d % 4294967296) ≡ Some (Some d)
digest_back d h =
    (λ k. cond (lt-ltb (d / 4294967296) 4294967296 (high_small 4294967296 d (2 ^ 64) (lit< tt) refl h) k) (cond (lt-ltb (d % 4294967296) 4294967296 (part_small 4294967296 d (lit< tt)) k) (Some (Some ((d / 4294967296) * 4294967296 + d % 4294967296))) None) None)
    ∙ ap (λ n. Some (Some n)) (whole 4294967296 d (lit< tt))

block_back : (b : Block) → b.replica < 65536 → block_of (b.replica, b.number) ≡ Some b
block_back b h = ap (λ x. cond x (Some b) None) (lt-ltb b.replica 65536 h)

-- ---- a claim

back : (b : Block) (e i : Option ℕ) → IsInRange (with_digests b e i) → claim_of (claim_data (with_digests b e i)) ≡ Some (with_digests b e i)
back b None None h = ap (λ o. claim_with (claim_data (with_digests b None None)) o (Some None) (Some None)) (block_back b h.0)
back b (Some d) None h = λ k. claim_with (claim_data (with_digests b (Some d) None)) (block_back b h.0 k) (digest_back d h.2 k) (Some None)
back b None (Some d) h = λ k. claim_with (claim_data (with_digests b None (Some d))) (block_back b h.0 k) (Some None) (digest_back d h.3 k)
back b (Some d) (Some f) h = λ k. claim_with (claim_data (with_digests b (Some d) (Some f))) (block_back b h.0 k) (digest_back d h.2 k) (digest_back f h.3 k)

pub claim_back : (claim : Claim) → IsInRange claim → claim_of (claim_data claim) ≡ Some claim
claim_back claim h = back claim.block claim.digests.deleted claim.digests.inserted h

shallow : (b : Block) (e i : Option ℕ) → depth (claim_data (with_digests b e i)) ≤ max_depth
shallow b None None = omega arith
shallow b (Some d) None = omega arith
shallow b None (Some d) = omega arith
shallow b (Some d) (Some f) = omega arith

pub not_deep : (claim : Claim) → depth (claim_data claim) ≤ max_depth
not_deep claim = shallow claim.block claim.digests.deleted claim.digests.inserted

-- ---- how the JSON of a claim is spelled

without_float : (b : Block) (e i : Option ℕ) → has_float (claim_data (with_digests b e i)) ≡ false
without_float b None None = refl
without_float b (Some d) None = refl
without_float b None (Some d) = refl
without_float b (Some d) (Some f) = refl

pub no_float : (claim : Claim) → has_float (claim_data claim) ≡ false
no_float claim = without_float claim.block claim.digests.deleted claim.digests.inserted

spelled : (b : Block) (e i : Option ℕ) → compact_text (claim_data (with_digests b e i)) ≡ claim_line (with_digests b e i)
unfolding serde_json_on_literals claim_line
spelled b None None = refl
spelled b (Some d) None = refl
spelled b None (Some d) = refl
spelled b (Some d) (Some f) = refl

pub line_of : (claim : Claim) → compact_text (claim_data claim) ≡ claim_line claim
line_of claim = spelled claim.block claim.digests.deleted claim.digests.inserted

-- ---- the halves of a digest are numbers of the types

half_small : (n d : ℕ) → d < 2 ^ 64 → d / n < 2 ^ 64
half_small n d h = omega (arith, div-le_self d n)

rest_small : (n d : ℕ) → d < 2 ^ 64 → d % n < 2 ^ 64
rest_small n d h = omega (arith, mod-le d n)

pub halves : (digest : ℕ) → digest < 2 ^ 64 → (digest / 4294967296 < 2 ^ 64) × (digest % 4294967296 < 2 ^ 64)
halves digest h = (half_small 4294967296 digest h, rest_small 4294967296 digest h)

-- ---- no newline

abbrev none : List ℕ → Bool
none bytes = list_all (λ b. not (b == 10)) bytes

both : (xs ys : List ℕ) → none xs ≡ true → none ys ≡ true → none (xs ++ ys) ≡ true
both xs ys p q = list_all-append (λ b. not (b == 10)) xs ys ∙ (λ k. p k && q k)

digit : (n : ℕ) → not ((48 + n) == 10) ≡ true
digit n = grind (arith, nat_tests)

none-decimal : (n : ℕ) → n < 2 ^ 64 → none (decimal n) ≡ true
none-decimal n h =
    decimal_by_steps (λ _ ds. none ds ≡ true) (λ k lt. (λ i. digit k i && true)) (λ k ds le done. both ds ((48 + k % 10) ∷ []) done (λ i. digit (k % 10) i && true)) n h

none-pair : (a b : ℕ) → a < 2 ^ 64 → b < 2 ^ 64 → none (pair_text a b) ≡ true
none-pair a b f g = both (decimal a) _ (none-decimal a f) (both (decimal b) (codes "]") (none-decimal b g) refl)

none-part : (name : List ℕ) (digest : Option ℕ) (more : List ℕ) → none name ≡ true → IsDigest digest → none more ≡ true → none (part_text name digest more) ≡ true
none-part name None more n h m = m
none-part name (Some d) more n h m =
    both name _ n (both (pair_text (d / 4294967296) (d % 4294967296)) more (none-pair (d / 4294967296) (d % 4294967296) (halves d h).0 (halves d h).1) m)

none-line : (claim : Claim) → IsInRange claim → none (claim_line claim) ≡ true
unfolding claim_line
none-line claim h =
    both (pair_text claim.block.replica claim.block.number) _ (none-pair claim.block.replica claim.block.number (omega (arith, h.0)) h.1)
    (none-part (codes "del") claim.digests.deleted _ refl h.2 (none-part (codes "ins") claim.digests.inserted (codes "}") refl h.3 refl))

pub one_line : (claim : Claim) → IsInRange claim → All (λ b. b ≢ 10) (claim_line claim)
one_line claim h k d l e =
    true≢false (sym (AllPass-from_list_all (λ b. not (b == 10)) (claim_line claim) (none-line claim h) k d l) ∙ ap (λ b. not (b == 10)) e)

-- ---- a summary is heard as it was told

-- ---- what a written value reads as

read_back : (d : Data) (text : List ℕ) → compact_text d ≡ text → tree.HasNumbers (outline d) → tree.depth (outline d) ≤ max_depth → of_json (outline d) ≡ Some d → read text ≡ Some d
read_back d text is numbers shallow parsed =
    read_tokens text (outline d) d (ap tokens (sym is ∙ sym (print-outline d)) ∙ tokens-print (tree.json_tokens (outline d)) (ArePrintable-json_tokens (outline d) numbers)) shallow parsed

pair_numbers : (a b : ℕ) → a < 2 ^ 64 → b < 2 ^ 64 → tree.HasNumbers (outline (pair_data a b))
pair_numbers a b f g = (IsNumber-decimal a f, (IsNumber-decimal b g, tt))

digest_numbers : (d : ℕ) → d < 2 ^ 64 → tree.HasNumbers (outline (digest_data d))
digest_numbers d h = pair_numbers (d / 4294967296) (d % 4294967296) (halves d h).0 (halves d h).1

pair_json : (a b : ℕ) → a < 2 ^ 64 → b < 2 ^ 64 → of_json (outline (pair_data a b)) ≡ Some (pair_data a b)
pair_json a b f g = rw (number_of-decimal a f, number_of-decimal b g)

digest_json : (d : ℕ) → d < 2 ^ 64 → of_json (outline (digest_data d)) ≡ Some (digest_data d)
digest_json d h = pair_json (d / 4294967296) (d % 4294967296) (halves d h).0 (halves d h).1

abbrev Reads : Claim → Type 0
Reads claim = read (claim_line claim) ≡ Some (claim_data claim)

value_read : (b : Block) (e i : Option ℕ) → IsInRange (with_digests b e i) → Reads (with_digests b e i)
value_read b None None h =
    read_back (claim_data (with_digests b None None)) (claim_line (with_digests b None None)) (line_of (with_digests b None None)) (pair_numbers b.replica b.number (omega (arith, h.0)) h.1, tt) (lit≤ tt)
    (rw (pair_json b.replica b.number (omega (arith, h.0)) h.1))
value_read b (Some d) None h =
    read_back (claim_data (with_digests b (Some d) None)) (claim_line (with_digests b (Some d) None)) (line_of (with_digests b (Some d) None)) (pair_numbers b.replica b.number (omega (arith, h.0)) h.1, (digest_numbers d h.2, tt)) (lit≤ tt)
    (rw (pair_json b.replica b.number (omega (arith, h.0)) h.1, digest_json d h.2))
value_read b None (Some d) h =
    read_back (claim_data (with_digests b None (Some d))) (claim_line (with_digests b None (Some d))) (line_of (with_digests b None (Some d))) (pair_numbers b.replica b.number (omega (arith, h.0)) h.1, (digest_numbers d h.3, tt)) (lit≤ tt)
    (rw (pair_json b.replica b.number (omega (arith, h.0)) h.1, digest_json d h.3))
value_read b (Some d) (Some f) h =
    read_back (claim_data (with_digests b (Some d) (Some f))) (claim_line (with_digests b (Some d) (Some f))) (line_of (with_digests b (Some d) (Some f))) (pair_numbers b.replica b.number (omega (arith, h.0)) h.1, (digest_numbers d h.2, (digest_numbers f h.3, tt))) (lit≤ tt)
    (rw (pair_json b.replica b.number (omega (arith, h.0)) h.1, digest_json d h.2, digest_json f h.3))

claim_read : (claim : Claim) → IsInRange claim → claim_in (claim_line claim) ≡ Some claim
claim_read claim h = ap (option_and_then claim_of) (value_read claim.block claim.digests.deleted claim.digests.inserted h) ∙ claim_back claim h

end_read : (n : ℕ) → n < 2 ^ 64 → claim_in (end_line n) ≡ None
end_read n h =
    ap (option_and_then claim_of) (read_back (end_data n) (end_line n) (compact_end n) (IsNumber-decimal n h, (tt, tt)) (lit≤ tt) (rw (number_of-decimal n h)))

-- ---- what such a line says

digits : (n : ℕ) → n < 2 ^ 64 → length (decimal n) ≤ 20
digits n h = length-decimal-le 20 n (omega arith) (omega (arith, h)) h

pair_utf8 : (a b : ℕ) → a < 2 ^ 64 → b < 2 ^ 64 → IsUtf8 (pair_text a b)
pair_utf8 a b f g =
    IsUtf8-append (codes "[") _ (IsUtf8-are_ascii _ refl) (IsUtf8-append _ _ (IsUtf8-decimal a f)
    (IsUtf8-append (codes ",") _ (IsUtf8-are_ascii _ refl) (IsUtf8-append _ _ (IsUtf8-decimal b g) (IsUtf8-are_ascii (codes "]") refl))))

part_utf8 : (name : List ℕ) (digest : Option ℕ) (more : List ℕ) → IsUtf8 name → IsDigest digest → IsUtf8 more → IsUtf8 (part_text name digest more)
part_utf8 name None more n h m = m
part_utf8 name (Some d) more n h m =
    IsUtf8-append (codes ",\"") _ (IsUtf8-are_ascii _ refl) (IsUtf8-append name _ n
    (IsUtf8-append (codes "\":") _ (IsUtf8-are_ascii _ refl) (IsUtf8-append _ _ (pair_utf8 (d / 4294967296) (d % 4294967296) (halves d h).0 (halves d h).1) m)))

claim_utf8 : (claim : Claim) → IsInRange claim → IsUtf8 (claim_line claim)
unfolding claim_line
claim_utf8 claim h =
    IsUtf8-append (codes "{\"block\":") _ (IsUtf8-are_ascii _ refl) (IsUtf8-append _ _ (pair_utf8 claim.block.replica claim.block.number (omega (arith, h.0)) h.1)
    (part_utf8 (codes "del") claim.digests.deleted _ (IsUtf8-are_ascii _ refl) h.2
    (part_utf8 (codes "ins") claim.digests.inserted (codes "}") (IsUtf8-are_ascii _ refl) h.3 (IsUtf8-are_ascii _ refl))))

pair_short : (a b : ℕ) → a < 2 ^ 64 → b < 2 ^ 64 → length (pair_text a b) ≤ 43
pair_short a b f g =
    omega (arith, length-append (decimal a) (44 ∷ (decimal b ++ 93 ∷ [])), length-append (decimal b) (93 ∷ []), digits a f, digits b g)

part_short : (name : List ℕ) (digest : Option ℕ) (more : List ℕ) → IsDigest digest → length (part_text name digest more) ≤ (length name + 47) + length more
part_short name None more h = omega arith
part_short name (Some d) more h =
    let pair : List ℕ = pair_text (d / 4294967296) (d % 4294967296) in
    omega (arith, length-append name (34 ∷ 58 ∷ (pair ++ more)), length-append pair more, pair_short (d / 4294967296) (d % 4294967296) (halves d h).0 (halves d h).1)

claim_short : (claim : Claim) → IsInRange claim → length (claim_line claim) ≤ MAX_LINE
unfolding claim_line
claim_short claim h =
    let last : List ℕ = part_text (codes "ins") claim.digests.inserted (codes "}") in
    let both : List ℕ = part_text (codes "del") claim.digests.deleted last in
    omega (
      arith,
      length-append (pair_text claim.block.replica claim.block.number) both,
      pair_short claim.block.replica claim.block.number (omega (arith, h.0)) h.1,
      part_short (codes "del") claim.digests.deleted last h.2,
      part_short (codes "ins") claim.digests.inserted (codes "}") h.3,
    )

claim_at : (claim : Claim) → IsInRange claim → claim_line_at (claim_line claim) ≡ Ok (One claim)
claim_at claim h =
    said (claim_line claim) (Some claim) (claim_short claim h) (
    ap (λ b. cond b (claim_in (claim_line claim)) None) (is_utf8-from_IsUtf8 (claim_line claim) (claim_utf8 claim h)) ∙ claim_read claim h)

end_short : (n : ℕ) → n < 2 ^ 64 → length (end_line n) ≤ MAX_LINE
unfolding end_line
end_short n h = omega (arith, length-append (decimal n) (codes ",\"op\":\"end\"}"), digits n h)

end_at : (n : ℕ) → n < 2 ^ 64 → claim_line_at (end_line n) ≡ Ok (Last n)
end_at n h =
    said (end_line n) None (end_short n h) (either (is_utf8 (end_line n)) (end_read n h)) ∙ ap end_said (end_back n h)
  where
    either : (b : Bool) → claim_in (end_line n) ≡ None → cond b (claim_in (end_line n)) None ≡ None
    either true none = none
    either false none = refl

-- ---- all that is told

abbrev failed : ReceiveFault → Result Summary ReceiveFault
failed e = Err e

-- a further claim has room
pub has_room : (most : ℕ) (before : List Claim) (claim : Claim) (claims : List Claim) → length (before ++ claim ∷ claims) ≤ most → length before < most
has_room most before claim claims h = omega (arith, length-append before (claim ∷ claims), h)

claims_heard : (before claims : List Claim) (lines : List (List ℕ)) (rest : List ℕ) → AllByRecursion IsInRange claims → length (before ++ claims) ≤ 1000000 → lines_heard before (map claim_line claims ++ lines) rest ≡ lines_heard (before ++ claims) lines rest
claims_heard before [] lines rest h few = ap (λ (cs : List Claim). lines_heard cs lines rest) (sym (append-nil before))
claims_heard before (claim ∷ claims) lines rest h few =
    ap (λ r. after_claim_line before r (λ more. lines_heard more (map claim_line claims ++ lines) rest)) (claim_at claim h.0)
    ∙ ap (λ b. cond b (lines_heard (before ++ claim ∷ []) (map claim_line claims ++ lines) rest) (failed (Refused (length before + 1) Full))) (lt-ltb (length before) 1000000 (has_room 1000000 before claim claims few))
    ∙ claims_heard (before ++ claim ∷ []) claims lines rest h.1 (subst (λ (cs : List Claim). length cs ≤ 1000000) (sym (append_assoc before (claim ∷ []) claims)) few)
    ∙ ap (λ (cs : List Claim). lines_heard cs lines rest) (append_assoc before (claim ∷ []) claims)

no_newline : (claims : List Claim) (n : ℕ) → AllByRecursion IsInRange claims → n < 2 ^ 64 → All HasNoNewline (map claim_line claims ++ end_line n ∷ [])
no_newline [] n h few = All-cons HasNoNewline (end_line n) [] (end_has_none n few) (All-nil HasNoNewline)
no_newline (claim ∷ claims) n h few = All-cons HasNoNewline (claim_line claim) (map claim_line claims ++ end_line n ∷ []) (one_line claim h.0) (no_newline claims n h.1 few)

-- so many are numbers of the types
within_types : (n : ℕ) → n ≤ 1000000 → n < 2 ^ 64
within_types n h = omega (arith, h)

pub told_is_heard : (c : Content) (s : Summary) → IsSummary c s → AllByRecursion IsInRange (claims_of s) → known_count c ≤ 1000000 → summary_heard (summary_text s) ≡ Ok s
told_is_heard c s is range known =
    (λ k. lines_heard [] (sym cut.0 k) (sym cut.1 k))
    ∙ claims_heard [] claims (end_line n ∷ []) [] range few
    ∙ ap (λ r. after_claim_line claims r (λ more. lines_heard more [] [])) (end_at n (within_types n few))
    ∙ ap (λ b. cond b (Ok (summary_from claims)) (failed Count)) (eq-eqb n n refl)
    ∙ ap Ok (comes_back c s is)
  where
    claims : List Claim
    claims = claims_of s

    n : ℕ
    n = length (claims_of s)

    few : length (claims_of s) ≤ 1000000
    few = le_trans (few_claims c s is) known

    cut : (claim_lines (claims_of s) ≡ lines_of (summary_text s)) × ([] ≡ rest_of (summary_text s))
    cut = cut_again (claim_lines (claims_of s)) (no_newline (claims_of s) (length (claims_of s)) range (within_types (length (claims_of s)) few))

-- ---- what is written of them

pub lines_told : {A E : Type 0} (r : Result (Vec ℕ A) E) (c : Content) (s : Summary) → IsSummary c s → IfOk r (λ lines. lines.items ≡ summary_text s) → OnOk r (AllByRecursion IsInRange (claims_of s)) → known_count c ≤ 1000000 → IfOk r (λ lines. IsTold lines.items c)
lines_told (Err e) c s is same range known = tt
lines_told (Ok lines) c s is same range known = record { own = s; is = is; text = same; heard = told_is_heard c s is range known }

module _ {W : Type 0} (contents : W → Option (List ℕ)) (a b : Calls W) (text : List ℕ) (c : Content) (told : IsTold text c) where
  -- a beginning of what is told of the one summary of a content
  pub begins_summary : WritesFront contents a b text → (own : Summary) → IsSummary c own → WritesFront contents a b (summary_text own)
  begins_summary front own other = subst (WritesFront contents a b) (told.text ∙ ap summary_text (one_summary c told.own own told.is other)) front

  -- and all of it
  pub tells_summary : Writes contents a b text → TellsSummary contents a b c
  tells_summary written = record { own = told.own; is = told.is; written = subst (Writes contents a b) told.text written; heard = told.heard }
