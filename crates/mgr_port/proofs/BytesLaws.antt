-- What becomes of a log's bytes by the steps of a history.
use Rattle.std.proofs.Common.{◌≡◌, inl, inr, ◌∙◌, ℕ, List, [], ◌∷◌, ◌++◌, true, false, Option, Some, None, length, refl, sym, ap, subst, append_assoc}
use Rattle.std.proofs.lemmas.List.{append-nil}
use Rattle.mgr_port.specs.Bytes.{Change, Changes, Clears, HadFront, HasAfter, HasFrontOf, HasLines, IsKnown, IsOnDevice, Persists, MayHave, MayHaveAfter, MaySurvive, MaySurviveAfter, Nothing, OfTold, Puts, SurvivesBehind, Tells, change_of}
use Rattle.mg_files.specs.Held.{HasBegunLog, Leaves}
use Rattle.mg_files.specs.declared.port.CallKind.TheVariants.{Append}
use Rattle.mgr_port.specs.Folder.{History, FolderStep, Adds, Dates, Empties, Ends, EndsInNewline, Follows, GivesTo, Links, Locks, Looks, LooksAt, Makes, Opens, Overwrites, Reads, ReadsAll, Removes, Renames, Resolves, SetsMode, Syncs, SyncsFolder, AreAll, IsQuiet, IsQuietStep, after}
use Rattle.mgr_port.specs.Growth.{AddsFront, IsAdded, IsLonger, ShowsGrowth}
use Rattle.mgr_port.specs.Notes.{LoadsLog}
use Rattle.mgr_port.specs.Spares.{IsOneOfMore, MayRemove}
use Rattle.mgr_port.specs.declared.folder.Opening.TheVariants as opening
use Rattle.mgr_port.specs.declared.log.LeftLog.{LeftLog}
use Rattle.mgr_port.proofs.FolderLaws.{only_more, only_chain, quiet_one, quiet_follow}

-- ---- quiet steps

abbrev pub IsStill : Change → Type 0
IsStill Nothing = Unit {0}
IsStill (Persists file) = Unit {0}
IsStill other = ⊥

-- they put and clear nothing
pub still : (step : FolderStep) → IsQuietStep step → IsStill (change_of step)
still (Looks path found) quiet = tt
still (Follows path found) quiet = tt
still (Resolves path target) quiet = tt
still (LooksAt file look) quiet = tt
still (Opens file path opening.Read) quiet = tt
still (Opens file path opening.Add) quiet = tt
still (Opens file path opening.Write) quiet = tt
still (Opens file path opening.Beside) quiet = tt
still (Opens file path (opening.New mode)) quiet = tt
still (Locks file lock) quiet = tt
still (Ends file size end) quiet = tt
still (EndsInNewline file size newline) quiet = tt
still (Dates file of later) quiet = absurd quiet
still (Syncs file) quiet = tt
still (Reads path bytes) quiet = tt
still (Adds file bytes) quiet = absurd quiet
still (Empties file) quiet = absurd quiet
still (SetsMode file mode) quiet = tt
still (GivesTo file owner) quiet = tt
still (SyncsFolder path) quiet = tt
still (ReadsAll file bytes) quiet = absurd quiet
still (Links path name) quiet = tt
still (Makes name bytes) quiet = tt
still (Removes path) quiet = tt
still (Renames path name) quiet = tt
still (Overwrites file path) quiet = absurd quiet

pub unchanged : (log : ℕ) (change : Change) (old new : List ℕ) → IsStill change → Changes log change old new → new ≡ old
unchanged log Nothing old new is changes = changes
unchanged log (Persists file) old new is changes = changes
unchanged log (Puts file bytes) old new is changes = absurd is
unchanged log (Clears file) old new is changes = absurd is

same : (log : ℕ) (step : FolderStep) (old new : List ℕ) → IsQuietStep step → Tells log step old new → new ≡ old
same log step old new quiet tells = unchanged log (change_of step) old new (still step quiet) tells.1

-- what holds behind quiet steps, held before them
before_told : (P : List FolderStep → Type 0) (a b : History) → ((seen steps : List FolderStep) → AreAll IsQuietStep seen → P (seen ++ steps) → P steps) → IsQuiet a b → OfTold P b → OfTold P a
before_told P None b goes quiet told = absurd (subst (OfTold P) quiet.is told)
before_told P (Some steps) b goes quiet told = goes quiet.seen steps quiet.all (subst (OfTold P) quiet.is told)

-- before a step
before_step : (log : ℕ) (step : FolderStep) (a b : History) (bytes : List ℕ) → b ≡ after step a → MayHave log b bytes
    → (old : List ℕ) × (new : List ℕ) × (more : List ℕ) × MayHave log a old × Tells log step old new × (bytes ≡ new ++ more)
before_step log step None b bytes is has = absurd (subst (λ h. MayHave log h bytes) is has)
before_step log step (Some steps) b bytes is has = subst (λ h. MayHave log h bytes) is has

-- before one that leaves the log as it is
before_still : (log : ℕ) (step : FolderStep) (a b : History) (bytes : List ℕ) → ((old new : List ℕ) → Tells log step old new → new ≡ old) → b ≡ after step a → MayHave log b bytes
    → HadFront log a bytes
before_still log step a b bytes still is has =
    let s = before_step log step a b bytes is has in (s.0, s.2, s.3, s.5 ∙ ap (λ l. l ++ s.2) (still s.0 s.1 s.4))

-- what was a beginning, had one before
earlier : (log : ℕ) (a b : History) (bytes : List ℕ) → ((l : List ℕ) → MayHave log b l → HadFront log a l) → HadFront log b bytes → HadFront log a bytes
earlier log a b bytes had (new, more, has, is) =
    let s = had new has in (s.0, s.1 ++ more, s.2, is ∙ ap (λ l. l ++ more) s.3 ∙ append_assoc s.0 s.1 more)

before_seen : (log : ℕ) (seen steps : List FolderStep) (bytes : List ℕ) → AreAll IsQuietStep seen → MayHaveAfter log bytes (seen ++ steps) → HadFront log (Some steps) bytes
before_seen log [] steps bytes all has = (bytes, [], has, sym (append-nil bytes))
before_seen log (step ∷ seen) steps bytes (one, all) (old, new, more, has, tells, is) =
    let s = before_seen log seen steps old all has in
    (s.0, s.1 ++ more, s.2, is ∙ ap (λ l. l ++ more) (same log step old new one tells ∙ s.3) ∙ append_assoc s.0 s.1 more)

pub before_quiet : (log : ℕ) (a b : History) (bytes : List ℕ) → IsQuiet a b → MayHave log b bytes → HadFront log a bytes
before_quiet log None b bytes quiet has = absurd (subst (λ h. MayHave log h bytes) quiet.is has)
before_quiet log (Some steps) b bytes quiet has = before_seen log quiet.seen steps bytes quiet.all (subst (λ h. MayHave log h bytes) quiet.is has)

-- ---- lines that are put behind a log

-- these lines were, between quiet steps
before_lines : (log : ℕ) (lines bytes : List ℕ) (a b c d : History) → IsQuiet a b → c ≡ after (Adds log lines) b → IsQuiet c d → MayHave log d bytes → HasLines log a lines bytes
before_lines log lines bytes a b c d first added last has =
    let late = before_quiet log c d bytes last has in
    let put = before_step log (Adds log lines) b c late.0 added late.2 in
    let early = before_quiet log a b put.0 first put.3 in
    let was = early.0 in
    let all : bytes ≡ was ++ early.1 ++ lines ++ put.2 ++ late.1 =
    late.3 ∙ ap (λ l. l ++ late.1) (put.5 ∙ ap (λ l. l ++ put.2) (put.4.1.0 refl ∙ ap (λ l. l ++ lines) early.3)) in (
      was,
      early.1,
      put.2 ++ late.1,
      early.2,
      all ∙ append_assoc (was ++ early.1 ++ lines) put.2 late.1,
    )

pub shown_quiet : (file : ℕ) (path : List ℕ) (left : LeftLog) (a b : History) → ShowsGrowth file path left a b → IsQuiet a b
shown_quiet file path left a b (look, end, newline, followed, ended, one, two, three, may) =
    only_more a ended b (EndsInNewline file look.stamp.length newline)
    (only_more a followed ended (Ends file left.stamp.length end) (quiet_follow a followed path (Some look) one) two tt) three tt

-- what follows once they are on the device
synced_quiet : (file : ℕ) (path : List ℕ) (left longer : LeftLog) (a b : History) (l : IsLonger file path left longer a b) → IsQuiet l.1 b
synced_quiet file path left longer a b (look, synced, looked, ended, one, two, three, shows, is, long) =
    only_chain synced ended b
    (only_more synced looked ended (Ends file look.stamp.length (Some longer.end)) (quiet_one synced looked (LooksAt file look) two tt) three tt)
    (shown_quiet file path left ended b shows)

pub longer_quiet : (file : ℕ) (path : List ℕ) (left longer : LeftLog) (a b : History) → IsLonger file path left longer a b → IsQuiet a b
longer_quiet file path left longer a b l = only_chain a l.1 b (quiet_one a l.1 (Syncs file) l.4 tt) (synced_quiet file path left longer a b l)

pub lines_are_there : (file : ℕ) (path : List ℕ) (left : LeftLog) (lines : List ℕ) (longer : LeftLog) (bytes : List ℕ) (a b : History) → IsAdded file path left lines longer a b
    → MayHave file b bytes → HasLines file a lines bytes
lines_are_there file path left lines longer bytes a b (shown, added, shows, put, later) has =
    before_lines file lines bytes a shown added b (shown_quiet file path left a shown shows) put (longer_quiet file path left longer added b later) has

pub front_is_there : (file : ℕ) (lines bytes : List ℕ) (a b : History) → AddsFront file lines a b → MayHave file b bytes → HadFront file a bytes
front_is_there file lines bytes a b (inl quiet) has = before_quiet file a b bytes quiet has
front_is_there file lines bytes a b (inr (front, rest, shown, added, parts, first, put, last)) has =
    let s = before_lines file front bytes a shown added b first put last has in
    (s.0, s.1 ++ (front ++ s.2), s.3, s.4 ∙ append_assoc (s.0 ++ s.1) front s.2 ∙ append_assoc s.0 s.1 (front ++ s.2))

-- ---- a log that is read

before_removal : (log file : ℕ) (path : List ℕ) (a b : History) (bytes : List ℕ) → MayRemove IsOneOfMore file path a b → MayHave log b bytes → HadFront log a bytes
before_removal log file path a b bytes (inl is) has = (bytes, [], subst (λ h. MayHave log h bytes) is has, sym (append-nil bytes))
before_removal log file path a b bytes (inr (opened, looked, one, inl is)) has =
    before_still log (LooksAt file opened) a b bytes (λ _ _ t. t.1) (is ∙ one) has
before_removal log file path a b bytes (inr (opened, looked, one, inr (found, followed, two, inl is))) has =
    earlier log a looked bytes (λ l. before_still log (LooksAt file opened) a looked l (λ _ _ t. t.1) one) (before_still log (Follows path found) looked b bytes (λ _ _ t. t.1) (is ∙ two) has)
before_removal log file path a b bytes (inr (opened, looked, one, inr (found, followed, two, inr (second, gone)))) has =
    earlier log a looked bytes (λ l. before_still log (LooksAt file opened) a looked l (λ _ _ t. t.1) one)
    (earlier log looked followed bytes (λ l. before_still log (Follows path found) looked followed l (λ _ _ t. t.1) two) (before_still log (Removes path) followed b bytes (λ _ _ t. t.1) gone has))

-- what was read
before_read : (log : ℕ) (read bytes : List ℕ) (a b : History) → b ≡ after (ReadsAll log read) a → HadFront log b bytes → (more : List ℕ) × (bytes ≡ read ++ more)
before_read log read bytes a b is (l, rest, has, all) =
    let s = before_step log (ReadsAll log read) a b l is has in
    let whole : s.1 ≡ read = s.4.1 ∙ sym (s.4.0 refl) in
    (s.2 ++ rest, all ∙ ap (λ p. p ++ rest) (s.5 ∙ ap (λ p. p ++ s.2) whole) ∙ append_assoc read s.2 rest)

pub read_is_there : (file : ℕ) (path next read : List ℕ) (left : LeftLog) (bytes : List ℕ) (b : History) → LoadsLog file path next read left b → MayHave file b bytes
    → (more : List ℕ) × (bytes ≡ read ++ more)
read_is_there file path next read left bytes b (locked, loaded, opens, (reading, ended, is, (look, looked, one, two, stamp), removed), quiet) has =
    before_read file read bytes locked reading is
    (earlier file reading looked bytes (λ l. before_still file (LooksAt file look) reading looked l (λ _ _ t. t.1) one)
    (earlier file looked ended bytes (λ l. before_still file (Ends file (length read) (Some left.end)) looked ended l (λ _ _ t. t.1) two)
    (earlier file ended loaded bytes (λ l. before_removal file file next ended loaded l removed) (before_quiet file loaded b bytes quiet has))))

-- ---- the machine stops

has_seen : (log : ℕ) (bytes : List ℕ) (seen steps : List FolderStep) → AreAll IsQuietStep seen → HasAfter log bytes (seen ++ steps) → HasAfter log bytes steps
has_seen log bytes [] steps all has = has
has_seen log bytes (step ∷ seen) steps (one, all) (old, has, tells) =
    has_seen log bytes seen steps all (subst (λ l. HasAfter log l (seen ++ steps)) (sym (same log step old bytes one tells)) has)

-- before quiet steps it had the same
had : (log : ℕ) (bytes : List ℕ) (a b : History) → IsQuiet a b → OfTold (HasAfter log bytes) b → OfTold (HasAfter log bytes) a
had log bytes a b quiet has = before_told (HasAfter log bytes) a b (has_seen log bytes) quiet has

survives_still : (log : ℕ) (change : Change) (Survives Has : List ℕ → Type 0) (found : List ℕ) → IsStill change → SurvivesBehind log change Survives Has found → Survives found
survives_still log Nothing Survives Has found is survives = survives
survives_still log (Persists file) Survives Has found is survives = survives.0
survives_still log (Puts file bytes) Survives Has found is survives = absurd is
survives_still log (Clears file) Survives Has found is survives = absurd is

survives_seen : (log : ℕ) (found : List ℕ) (seen steps : List FolderStep) → AreAll IsQuietStep seen → MaySurviveAfter log found (seen ++ steps) → MaySurviveAfter log found steps
survives_seen log found [] steps all survives = survives
survives_seen log found (step ∷ seen) steps (one, all) survives =
    survives_seen log found seen steps all
    (survives_still log (change_of step) (λ l. MaySurviveAfter log l (seen ++ steps)) (λ l. HasAfter log l (seen ++ steps)) found (still step one) survives)

survived : (log : ℕ) (found : List ℕ) (a b : History) → IsQuiet a b → MaySurvive log b found → MaySurvive log a found
survived log found a b quiet survives = before_told (MaySurviveAfter log found) a b (survives_seen log found) quiet survives

none_of : (lines bytes found : List ℕ) → found ≡ bytes → HasFrontOf lines bytes found
none_of lines bytes found is = ([], lines, refl, is ∙ sym (append-nil bytes))

-- some of these bytes are there, or none
front_survives : (log : ℕ) (front bytes found : List ℕ) (a b c : History) → IsOnDevice log a bytes → IsQuiet a b → c ≡ after (Adds log front) b → MaySurvive log c found
    → HasFrontOf front bytes found
front_survives log front bytes found a None c device quiet put survives = absurd (subst (λ h. MaySurvive log h found) put survives)
front_survives log front bytes found a (Some steps) c device quiet put survives = elim (subst (λ h. MaySurvive log h found) put survives) [
  | inl before ↦ none_of front bytes found (device.survives found (survived log found a (Some steps) quiet before))
  | inr (was, part, more, this, has, cut, is) ↦ (part, more, cut, is ∙ ap (λ l. l ++ part) (device.has was (had log was a (Some steps) quiet has)))
]

pub torn : (log : ℕ) (lines bytes found : List ℕ) (a b : History) → AddsFront log lines a b → IsOnDevice log a bytes → MaySurvive log b found → HasFrontOf lines bytes found
torn log lines bytes found a b (inl quiet) device survives = none_of lines bytes found (device.survives found (survived log found a b quiet survives))
torn log lines bytes found a b (inr (front, rest, shown, added, parts, first, put, last)) device survives =
    let s = front_survives log front bytes found a shown added device first put (survived log found added b last survives) in
    (s.0, s.1 ++ rest, parts ∙ ap (λ l. l ++ rest) s.2 ∙ append_assoc s.0 s.1 rest, s.3)

-- what it has behind lines that were put there
has_lines : (log : ℕ) (lines bytes now : List ℕ) (a b c : History) → IsKnown log a bytes → IsQuiet a b → c ≡ after (Adds log lines) b → OfTold (HasAfter log now) c → now ≡ bytes ++ lines
has_lines log lines bytes now a None c known quiet put has = absurd (subst (OfTold (HasAfter log now)) put has)
has_lines log lines bytes now a (Some steps) c known quiet put has =
    let s = subst (OfTold (HasAfter log now)) put has in
    s.2.1.0 refl ∙ ap (λ l. l ++ lines) (known s.0 (had log s.0 a (Some steps) quiet s.1))

added_known : (log : ℕ) (path : List ℕ) (left : LeftLog) (lines : List ℕ) (longer : LeftLog) (bytes : List ℕ) (a b : History) → IsAdded log path left lines longer a b
    → IsKnown log a bytes → IsKnown log b (bytes ++ lines)
added_known log path left lines longer bytes a b (shown, added, shows, put, later) known = λ now has.
    has_lines log lines bytes now a shown added known (shown_quiet log path left a shown shows) put (had log now added b (longer_quiet log path left longer added b later) has)

-- what is brought to the device stands there
on_device : (log : ℕ) (found : List ℕ) (a b : History) → b ≡ after (Syncs log) a → MaySurvive log b found → OfTold (HasAfter log found) a
on_device log found None b is survives = absurd (subst (λ h. MaySurvive log h found) is survives)
on_device log found (Some steps) b is survives = (subst (λ h. MaySurvive log h found) is survives).1 refl

pub lines_are_on_device : (log : ℕ) (path : List ℕ) (left : LeftLog) (lines : List ℕ) (longer : LeftLog) (bytes : List ℕ) (a b : History) → IsAdded log path left lines longer a b
    → IsKnown log a bytes → IsOnDevice log b (bytes ++ lines)
lines_are_on_device log path left lines longer bytes a b (shown, added, shows, put, later) known = record {
  survives = λ found survives.
      has_lines log lines bytes found a shown added known (shown_quiet log path left a shown shows) put
      (on_device log found added later.1 later.4 (survived log found later.1 b (synced_quiet log path left longer added b later) survives));
  has = added_known log path left lines longer bytes a b (shown, added, shows, put, later) known;
}

-- ---- what a port is held to, of a log that nobody else writes into

-- before one quiet step, or a removal
had_still : (log : ℕ) (now : List ℕ) (step : FolderStep) (a b : History) → IsQuietStep step → b ≡ after step a → OfTold (HasAfter log now) b → OfTold (HasAfter log now) a
had_still log now step a b quiet is has = had log now a b (quiet_one a b step is quiet) has

had_removed : (log : ℕ) (path now : List ℕ) (a b : History) → b ≡ after (Removes path) a → OfTold (HasAfter log now) b → OfTold (HasAfter log now) a
had_removed log path now None b is has = absurd (subst (OfTold (HasAfter log now)) is has)
had_removed log path now (Some steps) b is has =
    let s = subst (OfTold (HasAfter log now)) is has in subst (λ l. HasAfter log l steps) (sym s.2.1) s.1

had_removal : (log file : ℕ) (path now : List ℕ) (a b : History) → MayRemove IsOneOfMore file path a b → OfTold (HasAfter log now) b → OfTold (HasAfter log now) a
had_removal log file path now a b (inl is) has = subst (OfTold (HasAfter log now)) is has
had_removal log file path now a b (inr (opened, looked, one, rest)) has =
    had_still log now (LooksAt file opened) a looked tt one (elim rest [
      | inl is ↦ subst (OfTold (HasAfter log now)) is has
      | inr (found, followed, two, inl is) ↦ had_still log now (Follows path found) looked followed tt two (subst (OfTold (HasAfter log now)) is has)
      | inr (found, followed, two, inr (second, gone)) ↦ had_still log now (Follows path found) looked followed tt two (had_removed log path now followed b gone has)
    ])

known_read : (log : ℕ) (read now : List ℕ) (a b : History) → b ≡ after (ReadsAll log read) a → OfTold (HasAfter log now) b → now ≡ read
known_read log read now None b is has = absurd (subst (OfTold (HasAfter log now)) is has)
known_read log read now (Some steps) b is has = let s = subst (OfTold (HasAfter log now)) is has in s.2.1 ∙ sym (s.2.0 refl)

pub read_known : (log : ℕ) (path next read : List ℕ) (left : LeftLog) (b : History) → LoadsLog log path next read left b → IsKnown log b read
read_known log path next read left b (locked, loaded, opens, (reading, ended, is, (look, looked, one, two, stamp), removed), quiet) = λ now has.
    known_read log read now locked reading is
    (had_still log now (LooksAt log look) reading looked tt one
    (had_still log now (Ends log (length read) (Some left.end)) looked ended tt two
    (had_removal log log next now ended loaded removed (had log now loaded b quiet has))))

pub as_appended : (log : ℕ) (path : List ℕ) (left : LeftLog) (lines : List ℕ) (longer : LeftLog) (bytes found : List ℕ) (text : Option (List ℕ)) (a b : History) → IsAdded log path left lines longer a b
    → IsKnown log a bytes → OfTold (HasAfter log found) b
    → Leaves Append true lines (record { log = Some bytes; text = text }) (record { log = Some found; text = text })
as_appended log path left lines longer bytes found text a b added known has = λ k. record { log = Some (added_known log path left lines longer bytes a b added known found has k); text = text }

begun : (log : ℕ) (lines bytes found : List ℕ) (a b c : History) (front rest : List ℕ) → lines ≡ front ++ rest → IsKnown log a bytes → IsQuiet a b → c ≡ after (Adds log front) b
    → OfTold (HasAfter log found) c → HasBegunLog bytes lines (Some found)
begun log lines bytes found a b c front rest parts known quiet put has = record {
  front = front;
  rest = rest;
  cut = sym parts;
  behind = ap (λ (l : List ℕ). Some l) (has_lines log front bytes found a b c known quiet put has);
}

pub as_begun : (log : ℕ) (lines bytes found : List ℕ) (text : Option (List ℕ)) (a b : History) → AddsFront log lines a b → IsKnown log a bytes → OfTold (HasAfter log found) b
    → Leaves Append false lines (record { log = Some bytes; text = text }) (record { log = Some found; text = text })
as_begun log lines bytes found text a b (inl quiet) known has =
    (record { front = []; rest = lines; cut = refl; behind = ap (λ (l : List ℕ). Some l) (known found (had log found a b quiet has) ∙ sym (append-nil bytes)) }, refl)
as_begun log lines bytes found text a b (inr (front, rest, shown, added, parts, first, put, last)) known has =
    (begun log lines bytes found a shown added front rest parts known first put (had log found added b last has), refl)
