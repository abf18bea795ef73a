-- That records stay in order and counted through each change.
use Rattle.std.proofs.Common.{arith, ◌≡◌, ℕ, ◌+◌, ◌-◌, true, cond, [], refl}
use Rattle.std.specs.Prelude.{Some, Ok, max}
use Rattle.std.specs.List.Sorted.{IsStrictlySortedBy}
use Rattle.std.specs.FinMap as finite_map
use Rattle.std.specs.FinSet as finite_set
use Rattle.rga_ops.specs.Identifier.{Identifier}
use Rattle.rga_ops.specs.Content.{Element, Content, join, single, clock_of}
use Rattle.rga_ops.specs.Answer.{answer}
use Rattle.rga_ops.specs.declared.op.Op.TheVariants.{Insert, Delete}
use Rattle.rga_ops.specs.declared.refusal.Taken.TheVariants.{New}
use Rattle.rga_store.specs.Limit.{is_limit}
use Rattle.rga_store.specs.Without.{without_insertion, without_deletion}
use Rattle.rga_store.specs.Counted.{IsCounted}
use Rattle.rga_store.proofs.StepLaws.{counted_insertion, counted_deletion}
use Rattle.rga_store.proofs.WithoutLaws.{counted_without_insertion, counted_without_deletion}
use Rattle.rga_store.proofs.CountedLaws.{counted_nothing}
use Rattle.rga_records.specs.Records.{Entries, content_of_records, AreOrdered, AreRecords}

-- no records
pub no_records : (limit : ℕ) → is_limit limit ≡ true → AreRecords [] 0 0 0 limit
unfolding IsStrictlySortedBy
no_records limit h = record { ordered = tt; counted = counted_nothing limit h }

-- the element of an identifier that is inserted
pub record IsFound (c : Content) (id : Identifier) : Type 0 where
  pub element : Element
  pub found : finite_map.get c.inserted id ≡ Some element

pub found_there : (c : Content) (id : Identifier) → finite_map.contains_key c.inserted id ≡ true → IsFound c id
found_there c id h = grind (arith)

-- counts that are said to be what they are to be
pub recounted : (c d : Content) (latest insertions identifiers later inserted more limit : ℕ) → d ≡ c → later ≡ latest → inserted ≡ insertions → more ≡ identifiers → IsCounted c latest insertions identifiers limit → IsCounted d later inserted more limit
recounted c d latest insertions identifiers later inserted more limit same is_later is_inserted is_more w = rw (same, is_later, is_inserted, is_more) w

module _ (es fs : Entries) (latest insertions identifiers limit : ℕ) (w : AreRecords es latest insertions identifiers limit) (ordered : AreOrdered fs) where
  abbrev held : Content
  held = content_of_records es

  pub records_insertion : (id parent : Identifier) (ch later more : ℕ) → answer limit held (Insert id parent ch) ≡ Ok New
      → content_of_records fs ≡ join held (single (Insert id parent ch))
      → later ≡ max latest id.counter → more ≡ cond (finite_set.contains held.deleted id) identifiers (identifiers + 1) → AreRecords fs later (insertions + 1) more limit
  records_insertion id parent ch later more answered joined is_later is_more = record {
    ordered = ordered;
    counted = recounted _ _ _ _ _ later _ more limit joined is_later refl is_more (counted_insertion held latest insertions identifiers limit w.counted id parent ch answered);
  }

  pub records_deletion : (id : Identifier) (later more : ℕ) → answer limit held (Delete id) ≡ Ok New
      → content_of_records fs ≡ join held (single (Delete id))
      → later ≡ max latest id.counter → more ≡ cond (finite_map.contains_key held.inserted id) identifiers (identifiers + 1) → AreRecords fs later insertions more limit
  records_deletion id later more answered joined is_later is_more = record {
    ordered = ordered;
    counted = recounted _ _ _ _ _ later _ more limit joined is_later refl is_more (counted_deletion held latest insertions identifiers limit w.counted id answered);
  }

  pub records_without_insertion : (id : Identifier) (x : Element) (sooner less : ℕ) → finite_map.get held.inserted id ≡ Some x
      → content_of_records fs ≡ without_insertion id held
      → sooner ≡ clock_of (without_insertion id held) → less ≡ cond (finite_set.contains held.deleted id) identifiers (identifiers - 1) → AreRecords fs sooner (insertions - 1) less limit
  records_without_insertion id x sooner less found left is_sooner is_less = record {
    ordered = ordered;
    counted = recounted _ _ _ _ _ sooner _ less limit left is_sooner refl is_less (counted_without_insertion held latest insertions identifiers limit w.counted id x found);
  }

  pub records_without_deletion : (id : Identifier) (sooner less : ℕ) → finite_set.contains held.deleted id ≡ true
      → content_of_records fs ≡ without_deletion id held
      → sooner ≡ clock_of (without_deletion id held) → less ≡ cond (finite_map.contains_key held.inserted id) identifiers (identifiers - 1) → AreRecords fs sooner insertions less limit
  records_without_deletion id sooner less found left is_sooner is_less = record {
    ordered = ordered;
    counted = recounted _ _ _ _ _ sooner _ less limit left is_sooner refl is_less (counted_without_deletion held latest insertions identifiers limit w.counted id found);
  }
