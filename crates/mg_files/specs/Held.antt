-- What a port holds under its names, by the calls that it tells.
use Rattle.std.specs.Prelude.{◌≡◌, ◌≢◌, ◌⊎◌, ℕ, Bool, true, false, List, [], ◌∷◌, ◌++◌, Option, Some, None, IfSome}
use Rattle.mg_files.specs.declared.port.CallKind.{CallKind}
use Rattle.mg_files.specs.declared.port.CallKind.TheVariants.{Load, Append, Replace, PutText, Connect, Accept, Finish}
use Rattle.mg_files.specs.Calls.{Call}
use Rattle.mg_files.specs.Files.{Files}

-- the bytes of a log: none where it is not there
abbrev pub log_bytes : Option (List ℕ) → List ℕ
log_bytes (Some bytes) = bytes
log_bytes None = []

-- the log is there, with a beginning of the bytes, be it of none or of all, behind those that it had
pub record HasBegunLog (old bytes : List ℕ) (new : Option (List ℕ)) : Type 0 where
  pub front : List ℕ
  pub rest : List ℕ
  pub cut : front ++ rest ≡ bytes
  pub behind : new ≡ Some (old ++ front)

-- what an append that was refused leaves: a log that was not there is made whole or not at all
abbrev pub BegunLog : Option (List ℕ) → List ℕ → Option (List ℕ) → Type 0
BegunLog (Some old) bytes new = HasBegunLog old bytes new
BegunLog None bytes new = (new ≡ None) ⊎ (new ≡ Some bytes)

-- the log is the old one or this one
abbrev pub EitherLog : Option (List ℕ) → List ℕ → Option (List ℕ) → Type 0
EitherLog old bytes new = (new ≡ old) ⊎ (new ≡ Some bytes)

-- What a call of this kind, with these bytes, leaves of the files under its name. Of a text that was not put nothing is
-- known.
abbrev pub Leaves : CallKind → Bool → List ℕ → Files → Files → Type 0
Leaves Load answered bytes f g = g ≡ f
Leaves Append true bytes f g = g ≡ record { log = Some (log_bytes f.log ++ bytes); text = f.text }
Leaves Append false bytes f g = BegunLog f.log bytes g.log × (g.text ≡ f.text)
Leaves Replace true bytes f g = g ≡ record { log = Some bytes; text = f.text }
Leaves Replace false bytes f g = EitherLog f.log bytes g.log × (g.text ≡ f.text)
Leaves PutText true bytes f g = g ≡ record { log = f.log; text = Some bytes }
Leaves PutText false bytes f g = g.log ≡ f.log
Leaves Connect answered bytes f g = g ≡ f
Leaves Accept answered bytes f g = g ≡ f
Leaves Finish answered bytes f g = g ≡ f

-- the files under each name
abbrev pub Held : Type 0
Held = List ℕ → Files

-- a load answered what is there; beside a log the text may be left out
pub record AnswersLoad (f found : Files) : Type 0 where
  pub log : found.log ≡ f.log
  pub text : f.log ≡ None → found.text ≡ f.text

-- one call may lead from these files to those: none but those under its name change, and a load answers them
pub record MayLeave (c : Call) (s t : Held) : Type 0 where
  pub here : Leaves c.kind c.answered c.bytes (s c.name) (t c.name)
  pub found : IfSome c.found (AnswersLoad (s c.name))
  pub elsewhere : (name : List ℕ) → name ≢ c.name → t name ≡ s name

-- and so may calls in a row
abbrev pub MayLead : List Call → Held → Held → Type 0
MayLead [] s t = (name : List ℕ) → t name ≡ s name
MayLead (c ∷ calls) s t = (u : Held) × MayLeave c s u × MayLead calls u t
