-- Of the code: how the text that was told last stands to the live buffer's text, before an event and after it.
use Rattle.std.specs.Prelude.{◌≡◌, ◌⊎◌, ◌≤◌, ℕ, List, length, Some, Ok}
use Rattle.rga_ops.specs.Answer.{answer}
use Rattle.rga_ops.specs.Content.{Content, join, single}
use Rattle.rga_ops.specs.Identifier.{Identifier}
use Rattle.rga_ops.specs.Order.{text}
use Rattle.rga_ops.specs.Splice.{spliced}
use Rattle.rga_ops.specs.declared.op.Op.TheVariants.{Insert}
use Rattle.rga_ops.specs.declared.refusal.Taken.TheVariants.{New}
use Rattle.mg_events.specs.declared.report.Report.{Report}
use Rattle.mg_events.specs.declared.report.Report.TheVariants.{One, Splice}
use Rattle.mg_editor.specs.Editors.{Editor}
use Rattle.mg_workspace.specs.AtIndex.{state_at}
use Rattle.mg_live.specs.Changes.{Changes}
use Rattle.mg_live.specs.Made.{live_index}
use Rattle.mg_live.specs.States.{Live}
use Rattle.mg_live.specs.declared.changing.Reach.{Reach}
use Rattle.mg_live.specs.declared.changing.Reach.TheVariants.{Anywhere, Element, Between}

-- it is that text, where changes are asked for and the buffer is open
abbrev pub IsTold : Live → Editor → Type 0
IsTold live e = (c : Changes) (i : ℕ) → live.changes ≡ Some c → live_index live.name e ≡ Some i → c.text ≡ text (state_at i e.work).content

-- the content is that of the text, or one more insertion was taken
abbrev pub MayHaveTaken : Identifier → List ℕ → Content → Type 0
MayHaveTaken id told now = (told ≡ text now)
    ⊎ ((before : Content) × (limit : ℕ) × (parent : Identifier) × (ch : ℕ)
    × (told ≡ text before) × (answer limit before (Insert id parent ch) ≡ Ok New) × (now ≡ join before (single (Insert id parent ch))))

-- the text is that text, or characters of it were replaced
abbrev pub MayBeSpliced : ℕ → ℕ → List ℕ → List ℕ → Type 0
MayBeSpliced lo hi told now = (told ≡ now) ⊎ ((put : List ℕ) × (lo ≤ hi) × (hi ≤ length told) × (now ≡ spliced told lo hi put))

-- what an event that reaches so far may have made of a text
abbrev pub MayReach : Reach → List ℕ → Content → Type 0
MayReach Anywhere told now = Unit {0}
MayReach (Element id) told now = MayHaveTaken id told now
MayReach (Between lo hi) told now = MayBeSpliced lo hi told (text now)

-- the text that was told is the live buffer's from before such an event
abbrev pub WasTold : Reach → Live → Editor → Type 0
WasTold reach live e =
    (c : Changes) (i : ℕ) → live.changes ≡ Some c → live_index live.name e ≡ Some i → MayReach reach c.text (state_at i e.work).content

-- how far a report reaches
abbrev pub reach_of : Report → Reach
reach_of (One (Insert id parent ch)) = Element id
reach_of (Splice base lo hi text more) = Between lo hi
reach_of told = Anywhere
