-- What clap's rows give.
use Rattle.std.proofs.Common.{◌≡◌, ◌∙◌, ◌<◌, ◌≤◌, ◌^◌, ℕ, ap, refl, sym, subst, List, Bool, Option, Some, None, codes, false, true, true≢false, length}
use Rattle.std.specs.Option.{ForSome}
use Rattle.std.specs.Str.Parse.{IsNumeral, ParsesBool, ParsesUnsigned, digits_value, without_leading_plus}
use Rattle.std.specs.Prelude.{◌↔◌, Result, Ok, Err, IsSome, IfSome, unwrap_or}
use Rattle.clap.specs.Matches.{ReadsOne, one_text}
use Rattle.clap.specs.Walk.{Row, first_of, one_of, rows_of}
use Rattle.clap.specs.declared.parser.matches.Found.{Found}
use Rattle.clap.proofs.WalkLemmas.{one_text-rows}
use Rattle.rga_store.specs.declared.text_store.TheConstants.{MAX_LIMIT}
use Rattle.mg_screen.specs.Size.{least_rows, most_rows, least_columns, most_columns}
use Rattle.mg_screen.specs.Settings.{Values, AreAllowed, greatest_replica, greatest_port, greatest_fill}
use Rattle.mgr_args.specs.Edit.{GivesSettings, GivesValues}
use Rattle.mgr_args.specs.Given.{GivesFlag, GivesNumber, GivesNumberIf}

-- two texts at one place are one
pub same_some : {A : Type 0} (o : Option A) (a b : A) → o ≡ Some a → o ≡ Some b → a ≡ b
same_some o a b at also = let same : Some a ≡ Some b = sym at ∙ also in cc

-- a text is a number of that many bits in decimal digits
abbrev IsNumber : ℕ → List ℕ → Type 0
IsNumber bits text = IsNumeral 10 (without_leading_plus text) × (digits_value 10 (without_leading_plus text) < 2 ^ bits)

-- what is read of the text under an id is what stands there
pub number_read : {E : Type 0} (bits : ℕ) (gives : List ℕ → Result ℕ E → Type 0) (f : Found) (id : List ℕ) (o : Option ℕ)
    → ((t : List ℕ) (r : Result ℕ E) → gives t r → ParsesUnsigned bits 10 t r) → (one_text f id ≡ None → o ≡ None)
    → ((t : List ℕ) → one_text f id ≡ Some t → ReadsOne gives t o) → GivesNumberIf bits (rows_of f) id o
number_read bits gives f id o parses none reads = at (one_text f id) refl o none reads
  where
    at : (t : Option (List ℕ)) → one_text f id ≡ t → (p : Option ℕ) → (one_text f id ≡ None → p ≡ None)
        → ((t : List ℕ) → one_text f id ≡ Some t → ReadsOne gives t p) → GivesNumberIf bits (rows_of f) id p
    at None is None none reads = λ n g. absurd (let clash : None ≡ Some g.text = sym is ∙ one_text-rows f id ∙ g.at in cc)
    at None is (Some n) none reads = absurd (let clash : Some n ≡ None = none is in cc)
    at (Some t) is None none reads = λ n g.
        let same : t ≡ g.text = same_some (one_of id (rows_of f)) t g.text (sym (one_text-rows f id) ∙ is) g.at in
        let fits : digits_value 10 (without_leading_plus g.text) < 2 ^ bits = subst (λ m. m < 2 ^ bits) (sym g.value) g.fits in
        let failed = reads t is in
        parses t (Err failed.0) failed.1 (subst (IsNumber bits) (sym same) (g.numeral, fits))
    at (Some t) is (Some n) none reads =
        let read = parses t (Ok n) (reads t is) in
        record {
          text = t;
          at = sym (one_text-rows f id) ∙ is;
          numeral = read.0.0;
          value = sym read.1;
          fits = subst (λ m. m < 2 ^ bits) (sym read.1) read.0.1;
        }

-- and so it is of a flag
pub flag_read : {E : Type 0} (gives : List ℕ → Result Bool E → Type 0) (f : Found) (id : List ℕ) (o : Option Bool)
    → ((t : List ℕ) (r : Result Bool E) → gives t r → ParsesBool t r) → (one_text f id ≡ None → o ≡ None)
    → ((t : List ℕ) → one_text f id ≡ Some t → ReadsOne gives t o) → GivesFlag (rows_of f) id (unwrap_or o false)
flag_read gives f id o parses none reads = record { exact = at (one_text f id) refl o none reads }
  where
    at : (t : Option (List ℕ)) → one_text f id ≡ t → (p : Option Bool) → (one_text f id ≡ None → p ≡ None)
        → ((t : List ℕ) → one_text f id ≡ Some t → ReadsOne gives t p) → unwrap_or p false ≡ true ↔ one_of id (rows_of f) ≡ Some (codes "true")
    at None is p none reads =
        let off : p ≡ None = none is in
        (λ up. absurd (true≢false (sym up ∙ ap (λ p. unwrap_or p false) off)), λ given. absurd (let clash : None ≡ Some (codes "true") = sym is ∙ one_text-rows f id ∙ given in cc))
    at (Some t) is None none reads =
        let failed = reads t is in
        let other = parses t (Err failed.0) failed.1 in
        (λ up. absurd (true≢false (sym up)), λ given. absurd (other.0 (same_some (one_text f id) t (codes "true") is (one_text-rows f id ∙ given))))
    at (Some t) is (Some true) none reads =
        let text : t ≡ codes "true" = parses t (Ok true) (reads t is) in
        (λ up. sym (one_text-rows f id) ∙ is ∙ ap Some text, λ given. refl)
    at (Some t) is (Some false) none reads =
        let text : t ≡ codes "false" = parses t (Ok false) (reads t is) in
        (λ up. absurd (true≢false (sym up)), λ given. absurd (let clash : codes "false" ≡ codes "true" = sym text ∙ same_some (one_text f id) t (codes "true") is (one_text-rows f id ∙ given) in cc))

-- one number stands under an id
pub one_number : (bits : ℕ) (rows : List Row) (id : List ℕ) (n m : ℕ) → GivesNumber bits rows id n → GivesNumber bits rows id m → n ≡ m
one_number bits rows id n m g h =
    let text : g.text ≡ h.text = same_some (one_of id rows) g.text h.text g.at h.at in
    sym g.value ∙ ap (λ t. digits_value 10 (without_leading_plus t)) text ∙ h.value

port_too : (P : ℕ → Type 0) (rows : List Row) (id : List ℕ) (p q : Option ℕ) → GivesNumberIf 16 rows id p → GivesNumberIf 16 rows id q → ForSome p P → ForSome q P
port_too P rows id p None g h allowed = λ x is. absurd (let clash : None ≡ Some x = is in cc)
port_too P rows id None (Some m) g h allowed = absurd (g m h)
port_too P rows id (Some n) (Some m) g h allowed = λ x is.
    subst P (one_number 16 rows id n m g h ∙ same_some (Some m) m x refl is) (allowed n refl)

-- one flag stands under an id
one_flag : (rows : List Row) (id : List ℕ) (a b : Bool) → GivesFlag rows id a → GivesFlag rows id b → a ≡ b
one_flag rows id true b g h = sym (h.exact.1 (g.exact.0 refl))
one_flag rows id false true g h = g.exact.1 (h.exact.0 refl)
one_flag rows id false false g h = refl

-- values of the same rows are allowed together
pub allowed_too : (rows : List Row) (v w : Values) → GivesValues rows v → GivesValues rows w → AreAllowed v → AreAllowed w
allowed_too rows v w g h a =
    let name : v.name ≡ w.name = same_some (first_of _ rows) v.name w.name g.name h.name in
    let replica : v.replica ≡ w.replica = one_number 16 rows _ _ _ g.options.replica h.options.replica in
    let lines : v.rows ≡ w.rows = one_number 16 rows _ _ _ g.options.rows_of h.options.rows_of in
    let columns : v.columns ≡ w.columns = one_number 16 rows _ _ _ g.options.columns h.options.columns in
    let fill : v.fill ≡ w.fill = one_number 16 rows _ _ _ g.options.fill h.options.fill in
    let limit : v.limit ≡ w.limit = g.options.limit ∙ sym h.options.limit in
    let trace : v.trace ≡ w.trace = one_flag rows _ _ _ g.options.trace h.options.trace in
    let live : v.live ≡ w.live = one_flag rows _ _ _ g.options.live h.options.live in
    let changes : v.changes ≡ w.changes = one_flag rows _ _ _ g.options.changes h.options.changes in
    record {
      named = subst (λ n. 1 ≤ length n) name a.named;
      replica_from = subst (λ n. 1 ≤ n) replica a.replica_from;
      replica_to = subst (λ n. n ≤ greatest_replica) replica a.replica_to;
      port = port_too (λ p. (1 ≤ p) × (p ≤ greatest_port)) rows _ v.port w.port g.options.port h.options.port a.port;
      rows_from = subst (λ n. least_rows ≤ n) lines a.rows_from;
      rows_to = subst (λ n. n ≤ most_rows) lines a.rows_to;
      columns_from = subst (λ n. least_columns ≤ n) columns a.columns_from;
      columns_to = subst (λ n. n ≤ most_columns) columns a.columns_to;
      fill_from = subst (λ n. 1 ≤ n) fill a.fill_from;
      fill_to = subst (λ n. n ≤ greatest_fill) fill a.fill_to;
      limit_from = subst (λ n. 1 ≤ n) limit a.limit_from;
      limit_to = subst (λ n. n ≤ MAX_LIMIT) limit a.limit_to;
      untraced = λ is. sym trace ∙ a.untraced (live ∙ is);
      changes = λ is. sym live ∙ a.changes (changes ∙ is);
    }

-- settings of what was given are there where it is allowed
pub settled : (rows : List Row) (v : Values) (o : Option Values) → GivesValues rows v → IsSome o ↔ AreAllowed v → IfSome o (λ s. s ≡ v) → GivesSettings rows o
settled rows v None given exact same = λ w also allowed. absurd (let there = exact.1 (allowed_too rows w v also given allowed) in cc)
settled rows v (Some s) given exact same = subst (GivesValues rows) (sym same) given
