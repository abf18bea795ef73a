use Rattle.std.proofs.Common.{◌≡◌, ℕ, ◌≤◌, true, sym, subst, le_trans}
use Rattle.std.proofs.lemmas.Bool.{and_parts, leb-true}
use Rattle.std.specs.Prelude.{nat_le}
use Rattle.rga_store.specs.Limit.{is_limit}
use Rattle.rga_brief.proofs.TellingLaws.{lines_told}
use Rattle.rga_brief.proofs.telling.summary_lines.Goals as goal

within_limit : (known limit : ℕ) → known ≤ limit → is_limit limit ≡ true → known ≤ 1000000
within_limit known limit few is = le_trans few (leb-true limit 1000000 (and_parts (nat_le 1 limit) (nat_le limit 1000000) is).1)

pub returns : goal.returns
returns g c =
    let few = subst (λ n. n ≤ 1000000) c.known-known.ensures.known (within_limit c.known-known.result c.limit-limit.result (subst (λ n. c.known-known.result ≤ n) (sym c.limit-limit.ensures.limit) c.known-known.ensures.within) c.limit-limit.ensures.range) in
    record { ok = lines_told c.text_of.result (g.S.Taker.content c.args.store.now) c.in_ok-own.own c.in_ok-own.ensures.ok c.text_of.ensures.ok c.text_of.ensures.range few }
