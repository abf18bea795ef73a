-- What passes over the link that a port opens for an exchange.
use Rattle.std.specs.Prelude.{◌≡◌, ⊤, ℕ, Bool, true, false, List, [], ◌∷◌, ◌++◌, Option, Some, Result, Ok, Err, MatchResult}
use Rattle.rga_ops.specs.Content.{Content}
use Rattle.rga_exchange.specs.Counting.{Calls}
use Rattle.rga_exchange.specs.declared.counted.TheConstants.{MAX_CALLS}
use Rattle.rga_exchange.specs.declared.fault.ReceiveFault.{ReceiveFault}
use Rattle.rga_exchange.specs.declared.fault.SendFault.{SendFault}
use Rattle.rga_brief.specs.Summary.{Summary}
use Rattle.mg_files.specs.Calls.{Call, Adds}
use Rattle.mg_files.specs.Links.{KeepsBytes}
use Rattle.mg_buffer.specs.OpenState.{OpenState}
use Rattle.mg_files.specs.Saving.{saved}
use Rattle.mg_files.specs.declared.fault.ExchangeFault.{ExchangeFault}
use Rattle.mg_files.specs.declared.talking.Exchanged.{Exchanged}
use Rattle.mg_files.specs.Talking.{SendsOver, HearsOver}
use Rattle.mg_files.specs.Asking.{Role, Connects, Waits, Wire, SaysThenLearns, LearnsThenSays, Asks}
use Rattle.mg_files.specs.Meeting.{Ending, Unsaved, Unopened, Unasked, Unsent, Unended, Met, peer_answer, Came, Exchanges}

-- a link of which no call is counted yet
abbrev pub counted : {L : Type 0} → L → Calls L
counted link = record { inner = link; failures = 0; left = MAX_CALLS; at_end = false; flushed = true }

-- What a port tells of an exchange: the bytes of its links; the links that were opened before it, and those behind it; and
-- so its calls.
pub record Account (L : Type 0) : Type 0 where
  pub wire : Wire L
  pub links : Option (List L)
  pub opened : Option (List L)
  pub calls : Option (List Call)
  pub made : Option (List Call)

-- that of a port, from the one state of it to the other
abbrev pub account : {L P : Type 0} → (L → Option (List ℕ)) → (L → Option (List ℕ)) → (P → Option (List L)) → (P → Option (List Call)) → P → P → Account L
account remaining contents links calls old new =
    record { wire = record { remaining = remaining; contents = contents }; links = links old; opened = links new; calls = calls old; made = calls new }

module _ {L : Type 0} (a : Account L) (s : OpenState) where
  -- One link was opened, and where the exchange is brief each asked what the other knows, with this answer.
  pub record BeginsOver (role : Role) (answer : Result (Option Summary) ExchangeFault) : Type 0 where
    pub link : L
    pub opens : Adds a.links a.opened (link ∷ [])
    pub asked : Calls L
    pub asks : Asks a.wire answer role s (counted link) asked

  -- Behind that what is told to the peer was sent.
  pub record SendsFirst (answer : Result ℕ SendFault) : Type 0 where
    pub peer : Option Summary
    pub begins : BeginsOver Connects (Ok peer)
    pub sent : Calls L
    pub sends : SendsOver peer a.wire.contents begins.asked sent answer s.buffer.content

  -- All of it was sent, and once the sending was ended the peer was heard.
  pub record ThenHears (sent : ℕ) (answer : Result ℕ ReceiveFault) (met : OpenState) : Type 0 where
    pub first : SendsFirst (Ok sent)
    pub ended : L
    pub keeps : KeepsBytes a.wire.remaining a.wire.contents first.sent.inner ended
    pub heard : Calls L
    pub hears : HearsOver a.wire.remaining (counted ended) heard answer s met

  -- The peer was heard at once behind that.
  pub record HearsFirst (answer : Result ℕ ReceiveFault) (met : OpenState) : Type 0 where
    pub peer : Option Summary
    pub begins : BeginsOver Waits (Ok peer)
    pub heard : Calls L
    pub hears : HearsOver a.wire.remaining begins.asked heard answer s met

  -- Then what is told to it of this content was sent.
  pub record ThenSends {heard : Result ℕ ReceiveFault} {met : OpenState} (first : HearsFirst heard met) (answer : Result ℕ SendFault) (c : Content) : Type 0 where
    pub sent : Calls L
    pub sends : SendsOver first.peer a.wire.contents (counted first.heard.inner) sent answer c

module _ {L : Type 0} (a : Account L) (b d : OpenState) where
  -- What passed over the one link that was opened, by how the exchange ended, or that none was opened. A replica that waits
  -- sends nothing where it did not take the peer.
  abbrev pub PassesOver : (role : Role) (ending : Ending) → Came a.calls a.made b d role ending → Type 0
  PassesOver role (Unsaved fault) came = a.opened ≡ a.links
  PassesOver role (Unopened fault) came = a.opened ≡ a.links
  PassesOver role (Unasked fault) came = BeginsOver a d role (Err fault)
  PassesOver Connects (Unsent fault) came = SendsFirst a d (Err fault)
  PassesOver Connects (Unended fault) came = (sent : ℕ) × SendsFirst a d (Ok sent)
  PassesOver Connects (Met (Ok sent) heard kept) came = ThenHears a (saved b) sent heard came.met
  PassesOver Waits (Met sent heard kept) came =
      (first : HearsFirst a (saved b) heard came.met) × MatchResult (peer_answer heard kept) (λ _. ThenSends a (saved b) first sent d.buffer.content) (λ _. sent ≡ Ok 0)
  PassesOver role ending came = ⊤

  -- Each whole: what was done, and what passed.
  pub record ExchangesOver (role : Role) (answer : Result Exchanged ExchangeFault) : Type 0 where
    pub course : Exchanges role a.calls a.made b d answer
    pub passes : PassesOver role course.ending course.came

  -- All was sent, heard and saved.
  pub record Whole (role : Role) (e : Exchanged) : Type 0 where
    pub changed : Bool
    pub came : Came a.calls a.made b d role (Met (Ok e.sent) (Ok e.received) (Ok changed))
    pub passes : PassesOver role (Met (Ok e.sent) (Ok e.received) (Ok changed)) came

-- ---- two that meet

-- A link tells what was written on another, from the one state of that one to the other.
pub record Tells {L M : Type 0} (remaining : L → Option (List ℕ)) (contents : M → Option (List ℕ)) (link : L) (old new : M) : Type 0 where
  pub front : List ℕ
  pub bytes : List ℕ
  pub before : contents old ≡ Some front
  pub behind : contents new ≡ Some (front ++ bytes)
  pub told : remaining link ≡ Some bytes

module _ {L M : Type 0} (a : Account L) (b d : OpenState) (their : Account M) (their_b their_d : OpenState) where
  -- One replica connected and another waited, both answered their counts, and the link of each tells what the other wrote
  -- of its operations.
  pub record Meet : Type 0 where
    pub answer : Exchanged
    pub connects : Whole a b d Connects answer
    pub their_answer : Exchanged
    pub waits : Whole their their_b their_d Waits their_answer
    pub there : Tells their.wire.remaining a.wire.contents waits.passes.0.begins.asked.inner connects.passes.first.begins.asked.inner connects.passes.first.sent.inner
    pub back : Tells a.wire.remaining their.wire.contents connects.passes.first.sent.inner waits.passes.0.heard.inner waits.passes.1.sent.inner

  -- Each asked, and its link tells what the other wrote of what it knows.
  pub record HaveMetBriefly : Type 0 where
    pub meet : Meet
    pub peer : Summary
    pub knows : meet.connects.passes.first.peer ≡ Some peer
    pub asks : SaysThenLearns a.wire (counted meet.connects.passes.first.begins.link) meet.connects.passes.first.begins.asked b.buffer.content (Ok peer)
    pub their_peer : Summary
    pub they_know : meet.waits.passes.0.peer ≡ Some their_peer
    pub answers : LearnsThenSays their.wire (counted meet.waits.passes.0.begins.link) meet.waits.passes.0.begins.asked their_b.buffer.content their_peer (Ok tt)
    pub asked : Tells their.wire.remaining a.wire.contents meet.waits.passes.0.begins.link meet.connects.passes.first.begins.link asks.mid.inner
    pub answered : Tells a.wire.remaining their.wire.contents asks.mid.inner answers.mid.inner meet.waits.passes.0.begins.asked.inner
