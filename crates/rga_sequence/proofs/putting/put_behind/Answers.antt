use Rattle.std.proofs.Common.{◌≡◌, ◌++◌, ◌∷◌, List, [], length, sym, ap, ◌∙◌, subst}
use Rattle.std.specs.Prelude.{insert}
use Rattle.std.proofs.lemmas.List.{append-nil, nil_from_length}
use Rattle.rga_sequence.specs.declared.entry.Entry.{Entry}
use Rattle.rga_sequence.specs.Entries.{put_entry_past_larger, put_entry, put_chain, IsChain, AreApart}
use Rattle.rga_sequence.specs.Blocks.{Blocks, flat, before, behind}
use Rattle.rga_ops.proofs.CaseSteps.{on_ok_map, either_way}
use Rattle.rga_sequence.proofs.PutLaws.{apart_there}
use Rattle.rga_sequence.proofs.ChainLaws.{chain_there, chain_apart, chain_alone, alone_apart}
use Rattle.rga_sequence.proofs.putting.put_behind.Goals as goal

-- the first entries of all

alone : (bs : Blocks) (es : List Entry) → bs ≡ insert [] 0 es → flat bs ≡ es
alone bs es put = ap flat put ∙ append-nil es

pub returns-then-as_slice-eq0-clause-ok : goal.returns-then-as_slice-eq0-clause-ok
returns-then-as_slice-eq0-clause-ok c =
    let es : List Entry = c.args.entries.now in
    let none : c.args.blocks.now.items ≡ [] = nil_from_length c.args.blocks.now.items (ap length (sym c.as_slice.ensures.value) ∙ c.if-as_slice-eq0.true) in
    alone c.put_own.new.blocks.items es (c.in_ok-put_own.ensures.ok ∙ ap (λ bs. insert bs 0 es) none)
    ∙ sym (ap (λ bs. put_chain c.args.parent es (flat bs)) none ∙ chain_alone c.args.parent es (subst (λ bs. IsChain c.args.parent es (flat bs)) none c.requires.chain))

pub returns-then-as_slice-eq0-clause-kept : goal.returns-then-as_slice-eq0-clause-kept
returns-then-as_slice-eq0-clause-kept c =
    let es : List Entry = c.args.entries.now in
    let none : c.args.blocks.now.items ≡ [] = nil_from_length c.args.blocks.now.items (ap length (sym c.as_slice.ensures.value) ∙ c.if-as_slice-eq0.true) in
    record {
      apart = subst AreApart (sym (alone c.put_own.new.blocks.items es (c.in_ok-put_own.ensures.ok ∙ ap (λ bs. insert bs 0 es) none)))
          (alone_apart c.args.parent es c.requires.some (subst (λ bs. IsChain c.args.parent es (flat bs)) none c.requires.chain));
      filled = c.put_own.ensures.filled;
    }

-- behind the parent, where the first one goes

module _ (c : goal.After-put_at) where
  abbrev first : Entry
  first = c.index-entries-0.result

  abbrev front : List Entry
  front = before c.args.blocks.now.items c.skip-at.result.block c.skip-at.result.index

  abbrev back : List Entry
  back = behind c.args.blocks.now.items c.skip-at.result.block c.skip-at.result.index

  placed : put_entry c.args.parent first (flat c.args.blocks.now.items) ≡ front ++ first ∷ back
  placed = c.behind_parent-from.ensures.behind (put_entry_past_larger first) ∙ c.skip-at.ensures.skipped

  there : put_chain c.args.parent c.args.entries.now (flat c.args.blocks.now.items) ≡ front ++ (c.args.entries.now ++ back)
  there =
      chain_there c.args.parent first (flat c.args.blocks.now.items) front back
      (λ h. apart_there c.args.blocks.now.items c.skip-at.result.block c.skip-at.result.index first c.skip-at.ensures.place h c.requires.kept.apart)
      c.skip-at.ensures.stops placed c.args.entries.now c.requires.some c.index-entries-0.is c.requires.chain

  apart : AreApart (front ++ (c.args.entries.now ++ back))
  apart =
      chain_apart c.args.parent first (flat c.args.blocks.now.items) front back
      (λ h. apart_there c.args.blocks.now.items c.skip-at.result.block c.skip-at.result.index first c.skip-at.ensures.place h c.requires.kept.apart)
      c.skip-at.ensures.stops placed c.args.entries.now c.requires.some c.index-entries-0.is c.requires.chain

pub returns-clause-ok : goal.returns-clause-ok
returns-clause-ok c = on_ok_map c.put_at.result (λ e. e ∙ sym (there c)) c.put_at.ensures.ok

pub returns-clause-kept : goal.returns-clause-kept
returns-clause-kept c = record {
  apart = either_way AreApart c.put_at.result (flat c.put_at.new.blocks.items) _ _ c.put_at.ensures.ok c.put_at.ensures.err (apart c) c.requires.kept.apart;
  filled = c.put_at.ensures.filled;
}
