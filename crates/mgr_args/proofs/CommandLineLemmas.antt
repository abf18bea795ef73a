-- Which errors clap may answer to the words of the command line.
use Rattle.std.proofs.Common.{if◌then◌else◌, ◌≡◌, ◌⊎◌, ◌∙◌, inl, inr, ap, sym, subst, ℕ, ◌==◌, Bool, true, false, not, List, [], ◌∷◌, ◌++◌, Option, Some, None, refl, codes, drop, slice_get, arith, ◌+◌, suc, ap₂, map, string_bytes, option_map}
use Rattle.std.specs.Char.{encode_utf8}
use Rattle.std.specs.declared.string.String.{String}
use Rattle.std.specs.declared.alloc.Global.{Global}
use Rattle.std.specs.List.{AllByRecursion, list_any, position_or_len, before_first}
use Rattle.std.specs.Str.{IsUtf8, bytes_eq, chars, encode_utf8_all, is_utf8}
use Rattle.std.proofs.lemmas.Bool.{both_ways, cases_Bool, eq-eqb, eqb-false, eqb-true, false_from_ne_true, ne_eqb, not-true, or_parts}
use Rattle.std.proofs.lemmas.Option.{none-some, same_Some}
use Rattle.std.proofs.lemmas.Slice.Eq.{bytes_eq-Decides}
use Rattle.std.proofs.lemmas.Str.{IsUtf8-from_is_utf8, IsUtf8-string_bytes, encodes-chars}
use Rattle.clap.specs.Lexer.{has_byte, long_of, short_of}
use Rattle.clap.specs.Walk.{Held, Names, Row, Rule, Step, idle, long_or_other, nothing_held, short_or_plain, short_word, value, walk_from}
use Rattle.clap.specs.Simple.{App, Shape, built, names_of, is_simple, subcommand_of}
use Rattle.clap.specs.Faults.{built_fault, fault_of, flag_word_fault, is_simple_and_free, step_fault, turn_fault}
use Rattle.clap.specs.Kinds.{HasKind, IsAmong, Kinds, or_else}
use Rattle.clap.specs.Values.{kind_of}
use Rattle.clap.specs.declared.error.Error.{Error}
use Rattle.clap.specs.declared.error.kind.ErrorKind.{ErrorKind}
use Rattle.clap.specs.declared.error.kind.ErrorKind.TheVariants as kind
use Rattle.clap.proofs.OnLiterals.{clap_on_literals}
use Rattle.mgr_args.specs.Job.{Finds, FoundGives, IsFaultBehind, IsFaultOf, IsFaultOfKind, IsJobOf, IsNotChosen, kinds_behind}
use Rattle.mgr_args.specs.declared.job.Job.{Job}
use Rattle.mgr_args.specs.declared.job.JobFault.{JobFault}
use Rattle.mgr_args.specs.declared.job.JobFault.TheVariants.{Help, Version, Usage, Memory as OfMemory}
use Rattle.mgr_args.specs.Memory.{JobMemory as Memory}
use Rattle.mgr_args.specs.declared.job.Topic.{Topic}
use Rattle.mgr_args.specs.declared.job.Topic.TheVariants as topic
use Rattle.mgr_args.specs.CommandLine.{Text, Wish, arguments_wish, asking, command_line, with_help_flag, help, is_help_flag, is_version_flag, job_topics, mistake, topic_among, topic_of, topic_of_word, version, wish_of, wish_on, word_of}

pub command_line_is_simple : is_simple_and_free command_line ≡ true
unfolding clap_on_literals
command_line_is_simple = refl

pub command_line_is_plain : is_simple command_line ≡ true
unfolding clap_on_literals
command_line_is_plain = refl

-- ---- kinds of error

-- the kind is no error, but the answer to what was asked for
abbrev pub is_request : ErrorKind → Bool
is_request kind.DisplayHelp = true
is_request kind.DisplayVersion = true
is_request _ = false

-- there is an error, and it is none of these
abbrev pub is_mistaken : Kinds → Bool
is_mistaken [] = false
is_mistaken (k ∷ ks) = not (list_any is_request (k ∷ ks))

pub record IsMistaken (ks : Kinds) : Type 0 where
  pub test : is_mistaken ks ≡ true

-- the kinds of error that such a wish may bring, where help is on that topic
abbrev pub AreKindsOf : Topic → Wish → Kinds → Type 0
AreKindsOf on (asking asked words) ks = (on ≡ asked) × (ks ≡ kinds_behind (word_of asked) words)
AreKindsOf on help ks = (on ≡ topic.Program) × (ks ≡ kind.DisplayHelp ∷ [])
AreKindsOf on version ks = ks ≡ kind.DisplayVersion ∷ []
AreKindsOf on mistake ks = IsMistaken ks

-- ---- one word

-- the program
abbrev top : Shape
top = (built command_line).top

-- its flags
abbrev rules : List Rule
rules = top.rules

-- what clap finds wrong with a word that is no subcommand
abbrev flag_kinds : Text → Kinds
flag_kinds word = flag_word_fault rules false (long_of word) word nothing_held

-- and what it then takes it for
abbrev flag_step : Text → Step
flag_step word = (long_or_other rules idle word (long_of word) nothing_held).1

abbrev flag_held : Text → Held
flag_held word = (long_or_other rules idle word (long_of word) nothing_held).0

-- what comes of a word that is no subcommand, by what is asked by it
data Asks (word : Text) (ks : Kinds) (Other : Type 0) : Type 0 where
  for_help : is_help_flag word ≡ true → ks ≡ kind.DisplayHelp ∷ [] → Asks word ks Other
  for_version : is_help_flag word ≡ false → is_version_flag word ≡ true → ks ≡ kind.DisplayVersion ∷ [] → Asks word ks Other
  for_nothing : is_help_flag word ≡ false → is_version_flag word ≡ false → Other → Asks word ks Other

-- the word asks for help or the version, is an unknown flag or is no flag
abbrev ReadsFlag : Text → Type 0
ReadsFlag word = Asks word (flag_kinds word) (IsMistaken (flag_kinds word) ⊎ ((flag_kinds word ≡ []) × (flag_step word ≡ value)))

before_first-none : (p : ℕ → Bool) (xs : List ℕ) → list_any p xs ≡ false → before_first p xs ≡ xs
before_first-none p [] e = refl
before_first-none p (x ∷ xs) e =
    let parts = or_parts (p x) (list_any p xs) e in
    let one : 1 + position_or_len p xs ≡ suc (position_or_len p xs) = omega arith in
    rw (parts.0, one) (ap (λ ys. x ∷ ys) (before_first-none p xs parts.1))

reads_help : ReadsFlag (codes "--help")
unfolding clap_on_literals
reads_help = for_help refl refl

reads_version : ReadsFlag (codes "--version")
unfolding clap_on_literals
reads_version = for_version refl refl refl

-- a text before the first `=` is the whole where there is no `=`
abbrev name_of : Text → Text
name_of text = before_first (λ b. b == 61) text

named_whole : (flag text : Text) → bytes_eq text flag ≡ false → bytes_eq flag (name_of text) ≡ true → has_byte 61 text ≡ false → ⊥
named_whole flag text other named none =
    let whole : name_of text ≡ text = before_first-none (λ b. b == 61) text none in
    let is : flag ≡ name_of text = (bytes_eq-Decides flag (name_of text)).0 named in
    both_ways _ other ((bytes_eq-Decides text flag).1 (sym (is ∙ whole)))

-- `--` and a name
reads_long : (y : ℕ) (ys : Text) → ReadsFlag (45 ∷ 45 ∷ y ∷ ys)
unfolding clap_on_literals
reads_long y ys = elim (cases_Bool (bytes_eq (y ∷ ys) (codes "help"))) [
  | inl same ↦
      let is : y ∷ ys ≡ codes "help" = (bytes_eq-Decides (y ∷ ys) (codes "help")).0 same in
      subst (λ (w : Text). ReadsFlag (45 ∷ 45 ∷ w)) (sym is) reads_help
  | inr no_help ↦ elim (cases_Bool (bytes_eq (y ∷ ys) (codes "version"))) [
    | inl same ↦
        let is : y ∷ ys ≡ codes "version" = (bytes_eq-Decides (y ∷ ys) (codes "version")).0 same in
        subst (λ (w : Text). ReadsFlag (45 ∷ 45 ∷ w)) (sym is) reads_version
    | inr no_version ↦ for_nothing (rw no_help refl) (rw no_version refl)
        (inl (record { test = by_help no_help no_version (cases_Bool (bytes_eq (codes "help") (name_of (y ∷ ys)))) (cases_Bool (has_byte 61 (y ∷ ys))) }))
  ]
]
  where
    by_version : bytes_eq (y ∷ ys) (codes "version") ≡ false → bytes_eq (codes "help") (name_of (y ∷ ys)) ≡ false
        → (bytes_eq (codes "version") (name_of (y ∷ ys)) ≡ true) ⊎ (bytes_eq (codes "version") (name_of (y ∷ ys)) ≡ false)
        → (has_byte 61 (y ∷ ys) ≡ true) ⊎ (has_byte 61 (y ∷ ys) ≡ false) → is_mistaken (flag_kinds (45 ∷ 45 ∷ y ∷ ys)) ≡ true
    by_version other no_help (inr none) has = rw (no_help, none) refl
    by_version other no_help (inl named) (inl has) = rw (no_help, named, has) refl
    by_version other no_help (inl named) (inr none) = absurd (named_whole (codes "version") (y ∷ ys) other named none)

    by_help : bytes_eq (y ∷ ys) (codes "help") ≡ false → bytes_eq (y ∷ ys) (codes "version") ≡ false
        → (bytes_eq (codes "help") (name_of (y ∷ ys)) ≡ true) ⊎ (bytes_eq (codes "help") (name_of (y ∷ ys)) ≡ false)
        → (has_byte 61 (y ∷ ys) ≡ true) ⊎ (has_byte 61 (y ∷ ys) ≡ false) → is_mistaken (flag_kinds (45 ∷ 45 ∷ y ∷ ys)) ≡ true
    by_help no_help no_version (inr none) has =
        by_version no_version none (cases_Bool (bytes_eq (codes "version") (name_of (y ∷ ys)))) has
    by_help no_help no_version (inl named) (inl has) = rw (named, has) refl
    by_help no_help no_version (inl named) (inr none) = absurd (named_whole (codes "help") (y ∷ ys) no_help named none)

step_of_word : (word : Text) (flags : Option Text) → long_of word ≡ None → short_of word ≡ flags
    → flag_step word ≡ (short_or_plain rules idle word flags nothing_held).1
step_of_word word flags long short =
    ap (λ o. (long_or_other rules idle word o nothing_held).1) long ∙ ap (λ o. (short_or_plain rules idle word o nothing_held).1) short

-- `-h`, alone or with more behind it
reads_h : (xs : Text) → ReadsFlag (45 ∷ 104 ∷ xs)
unfolding clap_on_literals
reads_h [] = for_help refl refl
reads_h (x ∷ xs) = for_help refl refl

-- `-V`, alone or with more behind it
reads_V : (xs : Text) → ReadsFlag (45 ∷ 86 ∷ xs)
unfolding clap_on_literals
reads_V [] = for_version refl refl refl
reads_V (x ∷ xs) = for_version refl refl refl

first_byte : (k : ℕ) → encode_utf8 k ≡ k ∷ [] → (cs : List ℕ) (x : ℕ) (xs : Text) → slice_get cs 0 ≡ Some k → encode_utf8_all (45 ∷ cs) ≡ 45 ∷ x ∷ xs → k ≡ x
unfolding clap_on_literals
first_byte k one [] x xs e is = absurd (none-some k e)
first_byte k one (c ∷ cs) x xs e is =
    let same : c ≡ k = same_Some c k e in
    let text : 45 ∷ k ∷ encode_utf8_all cs ≡ 45 ∷ x ∷ xs = rw (same, one) at is in
    cc

-- a hyphen and what is no hyphen
reads_short : (x : ℕ) (xs : Text) → (x == 45) ≡ false → IsUtf8 (45 ∷ x ∷ xs) → ReadsFlag (45 ∷ x ∷ xs)
unfolding clap_on_literals
reads_short x xs e utf8 = elim (cases_Bool (104 == x)) [
  | inl h ↦ subst (λ (y : ℕ). ReadsFlag (45 ∷ y ∷ xs)) (eqb-true 104 x h) (reads_h xs)
  | inr no_h ↦ elim (cases_Bool (86 == x)) [
    | inl V ↦ subst (λ (y : ℕ). ReadsFlag (45 ∷ y ∷ xs)) (eqb-true 86 x V) (reads_V xs)
    | inr no_V ↦ for_nothing (rw (e, no_h) refl) (rw (e, no_V) refl) (by_char no_h no_V (slice_get (chars (x ∷ xs)) 0) refl)
  ]
]
  where
    long_none : long_of (45 ∷ x ∷ xs) ≡ None
    long_none = rw e refl

    short_some : short_of (45 ∷ x ∷ xs) ≡ Some (x ∷ xs)
    short_some = rw e refl

    unlike : (k c : ℕ) → encode_utf8 k ≡ k ∷ [] → (k == x) ≡ false → slice_get (chars (x ∷ xs)) 0 ≡ Some c → (k == c) ≡ false
    unlike k c one other is = ne_eqb k c (λ same.
        both_ways _ other (eq-eqb k x (first_byte k one (chars (x ∷ xs)) x xs (is ∙ ap (λ i. Some i) (sym same)) (encodes-chars _ utf8))))

    unknown : (c : ℕ) → (104 == c) ≡ false → (86 == c) ≡ false → slice_get (chars (x ∷ xs)) 0 ≡ Some c → is_mistaken (flag_kinds (45 ∷ x ∷ xs)) ≡ true
    unknown c no_h no_V is = rw (long_none, short_some, is, no_h, no_V) refl

    nothing : slice_get (chars (x ∷ xs)) 0 ≡ None → flag_kinds (45 ∷ x ∷ xs) ≡ []
    nothing is = rw (long_none, short_some, is) refl

    ends : slice_get (chars (x ∷ xs)) 0 ≡ None → (short_word rules idle (45 ∷ x ∷ xs) (x ∷ xs) nothing_held).1 ≡ value
    ends is = rw is refl

    by_char : (104 == x) ≡ false → (86 == x) ≡ false → (o : Option ℕ) → slice_get (chars (x ∷ xs)) 0 ≡ o
        → IsMistaken (flag_kinds (45 ∷ x ∷ xs)) ⊎ ((flag_kinds (45 ∷ x ∷ xs) ≡ []) × (flag_step (45 ∷ x ∷ xs) ≡ value))
    by_char no_h no_V None is = inr (nothing is, step_of_word (45 ∷ x ∷ xs) (Some (x ∷ xs)) long_none short_some ∙ ends is)
    by_char no_h no_V (Some c) is = inl (record { test = unknown c (unlike 104 c refl no_h is) (unlike 86 c refl no_V is) is })

reads_behind : (ys : Text) → IsUtf8 (45 ∷ ys) → ReadsFlag (45 ∷ ys)
unfolding clap_on_literals
reads_behind [] utf8 = for_nothing refl refl (inr (refl, refl))
reads_behind (y ∷ ys) utf8 = elim (cases_Bool (y == 45)) [
  | inl e ↦ subst (λ (z : ℕ). ReadsFlag (45 ∷ z ∷ ys)) (sym (eqb-true y 45 e)) (dashes ys)
  | inr e ↦ reads_short y ys e utf8
]
  where
    dashes : (zs : Text) → ReadsFlag (45 ∷ 45 ∷ zs)
    dashes [] = for_nothing refl refl (inr (refl, refl))
    dashes (z ∷ zs) = reads_long z zs

-- a word with no hyphen at its head
reads_plain : (x : ℕ) (xs : Text) → (x == 45) ≡ false → (45 == x) ≡ false → ReadsFlag (x ∷ xs)
unfolding clap_on_literals
reads_plain x xs e e' = for_nothing (rw (e, e') refl) (rw (e, e') refl) (inr (rw (long_none, short_none) refl, step_of_word (x ∷ xs) None long_none short_none))
  where
    long_none : long_of (x ∷ xs) ≡ None
    long_none = rw e refl

    short_none : short_of (x ∷ xs) ≡ None
    short_none = rw e refl

reads_flag : (word : Text) → IsUtf8 word → ReadsFlag word
unfolding clap_on_literals
reads_flag [] utf8 = for_nothing refl refl (inr (refl, refl))
reads_flag (x ∷ xs) utf8 = elim (cases_Bool (x == 45)) [
  | inl e ↦
      let is : x ≡ 45 = eqb-true x 45 e in
      subst (λ (y : ℕ). ReadsFlag (y ∷ xs)) (sym is) (reads_behind xs (subst (λ (y : ℕ). IsUtf8 (y ∷ xs)) is utf8))
  | inr e ↦ reads_plain x xs e (ne_eqb 45 x (λ same. eqb-false x 45 e (sym same)))
]

-- ---- a level of the command line

abbrev top_names : Names
top_names = names_of (built command_line)

bytes_eq-swap : (a b : Text) → bytes_eq a b ≡ false → bytes_eq b a ≡ false
bytes_eq-swap a b unlike =
    false_from_ne_true (bytes_eq b a) (λ same. both_ways _ unlike ((bytes_eq-Decides a b).1 (sym ((bytes_eq-Decides b a).0 same))))

-- a wish that begins with the word of that topic is for its job
abbrev IsWished : Text → Topic → Type 0
IsWished word on = (rest : List Text) → wish_on on word rest ≡ asking on rest

-- the word is that of none of these topics
abbrev NamesNone : Text → List Topic → Type 0
NamesNone word = AllByRecursion (λ on. bytes_eq (word_of on) word ≡ false)

-- a word is that of its topic, or of none
abbrev IsNamed : Text → List Topic → Type 0
IsNamed word ons = ((word ≡ word_of (topic_among ons word)) × IsWished word (topic_among ons word))
    ⊎ ((topic_among ons word ≡ topic.Program) × NamesNone word ons)

named_among : (word : Text) (ons : List Topic) → AllByRecursion (IsWished word) ons → IsNamed word ons
named_among word [] wished = inr (refl, tt)
named_among word (on ∷ more) wished = elim (cases_Bool (bytes_eq word (word_of on))) [
  | inl same ↦ rw same (inl ((bytes_eq-Decides word _).0 same, wished.0))
  | inr other ↦ elim (named_among word more wished.1) [
    | inl job ↦ rw other (inl job)
    | inr none ↦ rw other (inr (none.0, (bytes_eq-swap word _ other, none.1)))
  ]
]

named : (word : Text) → IsNamed word job_topics
named word = named_among word job_topics
    (λ _. refl, (λ _. refl, (λ _. refl, (λ _. refl, (λ _. refl, (λ _. refl, (λ _. refl, (λ _. refl, (λ _. refl, (λ _. refl, tt))))))))))

turn_top : (word : Text) → NamesNone word job_topics → bytes_eq word (codes "--") ≡ false
    → turn_fault top top_names (walk_from nothing_held) word ≡ or_else (flag_kinds word) (step_fault top 1 (flag_held word) (flag_step word))
unfolding clap_on_literals
turn_top word (show, (edit, (compact, (join, (log, (who, (claims, (missing, (merge, (mend, end)))))))))) unlike =
    rw (show, edit, compact, join, log, who, claims, missing, merge, mend, unlike) refl

first_mistake : (ks next : Kinds) → IsMistaken ks → IsMistaken (or_else ks next)
first_mistake [] next none = absurd (let clash : false ≡ true = none.test in cc)
first_mistake (k ∷ ks) next some = record { test = some.test }

-- a word that is no subcommand asks for help or the version, or is a mistake
abbrev Settles : Text → Kinds → Type 0
Settles word ks = Asks word ks (IsMistaken ks)

settles : (word : Text) (ks : Kinds) (after : Step → Kinds) → ks ≡ or_else (flag_kinds word) (after (flag_step word))
    → IsMistaken (after value) → ReadsFlag word → Settles word ks
settles word ks after is stray (for_help asked kinds) = for_help asked (is ∙ ap (λ first. or_else first (after (flag_step word))) kinds)
settles word ks after is stray (for_version no_help asked kinds) =
    for_version no_help asked (is ∙ ap (λ first. or_else first (after (flag_step word))) kinds)
settles word ks after is stray (for_nothing no_help no_version (inl wrong)) =
    for_nothing no_help no_version (subst IsMistaken (sym is) (first_mistake _ _ wrong))
settles word ks after is stray (for_nothing no_help no_version (inr plain)) =
    let at_value : ks ≡ after value = is ∙ ap₂ (λ first step. or_else first (after step)) plain.0 plain.1 in
    for_nothing no_help no_version (subst IsMistaken (sym at_value) stray)

abbrev AreTexts : List Text → Type 0
AreTexts = AllByRecursion IsUtf8

abbrev top_fault : List Text → Kinds
top_fault words = built_fault (built command_line) nothing_held words

abbrev AtTop : List Text → Type 0
AtTop words = AreKindsOf (topic_of words) (arguments_wish words) (top_fault words)

top_dashes : (more : List Text) → AtTop (codes "--" ∷ more)
unfolding clap_on_literals
top_dashes [] = record { test = refl }
top_dashes (x ∷ xs) = record { test = refl }

-- a word that names no job
top_other : (word : Text) (rest : List Text) → topic_of_word word ≡ topic.Program
    → Settles word (turn_fault top top_names (walk_from nothing_held) word) → AtTop (word ∷ rest)
unfolding clap_on_literals
top_other word rest none (for_help asked kinds) = rw (none, asked, kinds) (refl, refl)
top_other word rest none (for_version no_help asked kinds) = rw (none, no_help, asked, kinds) refl
top_other word rest none (for_nothing no_help no_version wrong) =
    rw (none, no_help, no_version) (first_mistake _ _ (first_mistake _ _ wrong))

-- all words but the program's name
top_kinds : (words : List Text) → AreTexts words → AtTop words
unfolding clap_on_literals
top_kinds [] utf8 = record { test = refl }
top_kinds (word ∷ rest) utf8 = elim (named word) [
  | inl job ↦ subst (λ w. AreKindsOf (topic_of_word word) w (top_fault (word ∷ rest))) (sym (job.1 rest)) (refl, ap (λ (w : Text). top_fault (w ∷ rest)) job.0)
  | inr none ↦ elim (cases_Bool (bytes_eq word (codes "--"))) [
    | inl dashes ↦ subst (λ (w : Text). AtTop (w ∷ rest)) (sym ((bytes_eq-Decides word (codes "--")).0 dashes)) (top_dashes rest)
    | inr unlike ↦ top_other word rest none.0 (settles word _ (step_fault top 1 (flag_held word)) (turn_top word none.1 unlike) (record { test = refl }) (reads_flag word utf8.0))
  ]
]

-- ---- what the functions of the crate need

texts_of_strings : (words : List (String Global)) → AreTexts (map string_bytes words)
texts_of_strings [] = tt
texts_of_strings (s ∷ rest) = (IsUtf8-string_bytes s, texts_of_strings rest)

help_is_text : IsUtf8 (codes "--help")
unfolding clap_on_literals is_utf8
help_is_text = IsUtf8-from_is_utf8 (codes "--help") refl

texts_and_help : (words : List Text) → AreTexts words → AreTexts (words ++ codes "--help" ∷ [])
texts_and_help [] utf8 = (help_is_text, tt)
texts_and_help (word ∷ rest) utf8 = (utf8.0, texts_and_help rest utf8.1)

texts_flagged : (words : List Text) → AreTexts words → AreTexts (with_help_flag words)
texts_flagged [] utf8 = tt
texts_flagged (word ∷ rest) utf8 = elim (cases_Bool (bytes_eq word (codes "help"))) [
  | inl asked ↦ rw asked (texts_and_help rest utf8.1)
  | inr other ↦ rw other utf8
]

texts_behind_name : (words : List (String Global)) → AreTexts (drop 1 (map string_bytes words))
texts_behind_name [] = tt
texts_behind_name (name ∷ rest) = texts_of_strings rest

-- what clap may find wrong with words that were with_help_flag
pub word_kinds : (app : App) (words : List (String Global)) (given : List Text) → app ≡ command_line → drop 1 given ≡ with_help_flag (drop 1 (map string_bytes words))
    → AreKindsOf (topic_of (drop 1 given)) (wish_of (map string_bytes words)) (fault_of app given)
word_kinds app words given app_is given_is =
    let utf8 = texts_flagged _ (texts_behind_name words) in
    let behind : AreKindsOf (topic_of (with_help_flag (drop 1 (map string_bytes words)))) (wish_of (map string_bytes words)) (top_fault (with_help_flag (drop 1 (map string_bytes words)))) =
    top_kinds (with_help_flag (drop 1 (map string_bytes words))) utf8 in
    let at_given : AreKindsOf (topic_of (drop 1 given)) (wish_of (map string_bytes words)) (top_fault (drop 1 given)) =
    subst (λ (ws : List Text). AreKindsOf (topic_of ws) (wish_of (map string_bytes words)) (top_fault ws)) (sym given_is) behind in
    subst (λ (a : App). AreKindsOf (topic_of (drop 1 given)) (wish_of (map string_bytes words)) (fault_of a given)) (sym app_is) at_given

-- the kinds that are the program's answer to a wish
abbrev IsKindOf : Topic → Wish → ErrorKind → Type 0
IsKindOf on (asking asked words) k = (on ≡ asked) × IsAmong k (kinds_behind (word_of asked) words)
IsKindOf on help k = (on ≡ topic.Program) × (k ≡ kind.DisplayHelp)
IsKindOf on version k = k ≡ kind.DisplayVersion
IsKindOf on mistake k = is_request k ≡ false

only : (k one : ErrorKind) (ks : Kinds) → ks ≡ one ∷ [] → IsAmong k ks → k ≡ one
only k one ks are among = alone (subst (IsAmong k) are among)
  where
    alone : IsAmong k (one ∷ []) → k ≡ one
    alone (inl same) = same
    alone (inr none) = absurd none

no_request : (k : ErrorKind) (ks : Kinds) → list_any is_request ks ≡ false → IsAmong k ks → is_request k ≡ false
no_request k [] none among = absurd among
no_request k (x ∷ xs) none (inl same) = ap is_request same ∙ (or_parts _ _ none).0
no_request k (x ∷ xs) none (inr more) = no_request k xs (or_parts _ _ none).1 more

mistaken : (k : ErrorKind) (ks : Kinds) → IsMistaken ks → IsAmong k ks → is_request k ≡ false
mistaken k [] some among = absurd among
mistaken k (x ∷ xs) some among = no_request k (x ∷ xs) (not-true (list_any is_request (x ∷ xs)) some.test) among

kind_of_wish : (on : Topic) (wish : Wish) (ks : Kinds) (k : ErrorKind) → AreKindsOf on wish ks → IsAmong k ks → IsKindOf on wish k
kind_of_wish on (asking asked words) ks k are among = (are.0, subst (IsAmong k) are.1 among)
kind_of_wish on help ks k are among = (are.0, only k kind.DisplayHelp ks are.1 among)
kind_of_wish on version ks k are among = only k kind.DisplayVersion ks are among
kind_of_wish on mistake ks k are among = mistaken k ks are among

-- memory may be wanting at any wish
pub memory_of : (wish : Wish) → IsFaultOf wish Memory
memory_of (asking asked words) = tt
memory_of help = tt
memory_of version = tt
memory_of mistake = tt

-- behind the word of a job
fault_behind : (on topic : Topic) (kinds : Kinds) (Nothing : Type 0) (k : ErrorKind) (fault : JobFault) → on ≡ topic → IsAmong k kinds → IsFaultOfKind on k fault → IsFaultBehind topic kinds Nothing fault
fault_behind on topic kinds Nothing k (OfMemory _) same among is = tt
fault_behind on topic kinds Nothing k (Help t text) same among is = (is.1 ∙ same, subst (λ j. IsAmong j kinds) is.0 among)
fault_behind on topic kinds Nothing k (Version text) same among is = subst (λ j. IsAmong j kinds) is among
fault_behind on topic kinds Nothing k (Usage text) same among is = inl (k, is.0, is.1, among)

fault_of_kind : (on : Topic) (wish : Wish) (k : ErrorKind) (fault : JobFault) → IsKindOf on wish k → IsFaultOfKind on k fault → IsFaultOf wish fault
fault_of_kind on wish k (OfMemory _) of is = memory_of wish
fault_of_kind on (asking asked words) k fault of is = fault_behind on asked (kinds_behind (word_of asked) words) (Finds asked words None) k fault of.0 of.1 is
fault_of_kind on help k (Help t text) of is = (refl, is.1 ∙ of.0)
fault_of_kind on help k (Version text) of is = absurd (let clash : kind.DisplayHelp ≡ kind.DisplayVersion = sym of.1 ∙ is in cc)
fault_of_kind on help k (Usage text) of is = absurd (is.0 of.1)
fault_of_kind on version k (Help t text) of is = absurd (let clash : kind.DisplayVersion ≡ kind.DisplayHelp = sym of ∙ is.0 in cc)
fault_of_kind on version k (Version text) of is = refl
fault_of_kind on version k (Usage text) of is = absurd (is.1 of)
fault_of_kind on mistake k (Help t text) of is = absurd (both_ways _ of (ap is_request is.0))
fault_of_kind on mistake k (Version text) of is = absurd (both_ways _ of (ap is_request is))
fault_of_kind on mistake k (Usage text) of is = refl

fault_of_memory : (on : Topic) (wish : Wish) (k : ErrorKind) (fault : JobFault) → k ≡ kind.OutOfMemory → IsFaultOfKind on k fault → IsFaultOf wish fault
fault_of_memory on wish k (OfMemory _) memory is = memory_of wish
fault_of_memory on wish k (Help t text) memory is = absurd (let clash : kind.OutOfMemory ≡ kind.DisplayHelp = sym memory ∙ is.0 in cc)
fault_of_memory on wish k (Version text) memory is = absurd (let clash : kind.OutOfMemory ≡ kind.DisplayVersion = sym memory ∙ is in cc)
fault_of_memory on wish k (Usage text) memory is = absurd (is.2 memory)

-- the fault that clap's error is, is one of the wish
pub wish_fault : (on : Topic) (wish : Wish) (ks : Kinds) (e : Error) (fault : JobFault) → AreKindsOf on wish ks → HasKind ks e → IsFaultOfKind on (kind_of e) fault → IsFaultOf wish fault
wish_fault on wish ks e fault are (inl memory) is = fault_of_memory on wish (kind_of e) fault memory is
wish_fault on wish ks e fault are (inr among) is = fault_of_kind on wish (kind_of e) fault (kind_of_wish on wish ks (kind_of e) are among) is

-- ---- what is chosen where clap finds no fault

-- what clap finds behind the job's word
abbrev pub rows_entered : List Text → Option (List Row)
rows_entered behind = option_map (λ p. p.1) (subcommand_of command_line (codes "mgr" ∷ behind))

-- what gives a job of a topic is wished for, and so is what gives none
pub record Chooses (wish : Wish) (on : Topic) (found : Option (List Row)) : Type 0 where
  pub job : (j : Job) → FoundGives on found (Some j) → IsJobOf wish j
  pub fault : (f : JobFault) → IsNotChosen on found f → IsFaultOf wish f

-- if the words bring no error
chooses_wish : (wish : Wish) (on : Topic) (ks : Kinds) (found : Option (List Row)) → AreKindsOf on wish ks → ks ≡ []
    → ((words : List Text) → wish ≡ asking on words → found ≡ rows_entered (word_of on ∷ words)) → Chooses wish on found
chooses_wish (asking asked words) on ks found are none entered =
    let rows : found ≡ rows_entered (word_of asked ∷ words) = entered words (ap (λ t. asking t words) (sym are.0)) ∙ ap (λ t. rows_entered (word_of t ∷ words)) are.0 in
    record { job = λ j gives. finds (Some j) rows gives; fault = fault rows }
  where
    finds : (o : Option Job) → found ≡ rows_entered (word_of asked ∷ words) → FoundGives on found o → Finds asked words o
    finds o rows gives = (sym are.1 ∙ none, subst (λ f. FoundGives asked f o) rows (subst (λ t. FoundGives t found o) are.0 gives))

    fault : found ≡ rows_entered (word_of asked ∷ words) → (f : JobFault) → IsNotChosen on found f → IsFaultOf (asking asked words) f
    fault rows (OfMemory _) chosen = tt
    fault rows (Help t text) chosen = absurd chosen
    fault rows (Version text) chosen = absurd chosen
    fault rows (Usage text) chosen = inr (finds None rows chosen)
chooses_wish help on ks found are none entered = absurd (let same : kind.DisplayHelp ∷ [] ≡ [] = sym are.1 ∙ none in cc)
chooses_wish version on ks found are none entered = absurd (let same : kind.DisplayVersion ∷ [] ≡ [] = sym are ∙ none in cc)
chooses_wish mistake on ks found are none entered = absurd (both_ways _ (ap is_mistaken none) are.test)

-- the words of a wish for a job are those after its word
entered_by : (behind : List Text) (on : Topic) (words : List Text) → arguments_wish behind ≡ asking on words → behind ≡ word_of on ∷ words
entered_by [] on words is = absurd (let clash : mistake ≡ asking on words = is in cc)
entered_by (word ∷ rest) on words is = elim (named word) [
  | inl job ↦
      let same : asking (topic_of_word word) rest ≡ asking on words = sym (job.1 rest) ∙ is in
      let topics : topic_of_word word ≡ on = cc in
      let texts : rest ≡ words = cc in
      ap₂ (λ (w : Text) (ws : List Text). w ∷ ws) (job.0 ∙ ap word_of topics) texts
  | inr none ↦ absurd (of_flag (is_help_flag word) (is_version_flag word) (ap (λ t. wish_on t word rest) (sym none.0) ∙ is))
]
  where
    of_flag : (h v : Bool) → (if h then help else if v then version else mistake) ≡ asking on words → ⊥
    of_flag true v same = let clash : help ≡ asking on words = same in absurd cc
    of_flag false true same = let clash : version ≡ asking on words = same in absurd cc
    of_flag false false same = let clash : mistake ≡ asking on words = same in absurd cc

-- of all words, as they were given to clap
pub chooses : (app : App) (words : List (String Global)) (given : List Text) (on : Topic) (found : Option (List Row)) → app ≡ command_line
    → drop 1 given ≡ with_help_flag (drop 1 (map string_bytes words)) → on ≡ topic_of (drop 1 given) → fault_of app given ≡ []
    → found ≡ option_map (λ p. p.1) (subcommand_of app given)
    → Chooses (wish_of (map string_bytes words)) on found
chooses app words given on found app_is given_is on_is none found_is =
    let behind = with_help_flag (drop 1 (map string_bytes words)) in
    let kinds = word_kinds app words given app_is given_is in
    let at : AreKindsOf on (wish_of (map string_bytes words)) (fault_of app given) =
    subst (λ t. AreKindsOf t (wish_of (map string_bytes words)) (fault_of app given)) (sym on_is) kinds in
    let rows : found ≡ rows_entered behind =
    found_is ∙ ap (λ (a : App). option_map (λ p. p.1) (subcommand_of a given)) app_is ∙ ap (λ (ws : List Text). rows_entered ws) given_is in
    chooses_wish (wish_of (map string_bytes words)) on (fault_of app given) found at none (λ ws is. rows ∙ ap (λ (l : List Text). rows_entered l) (entered_by behind on ws is))
