-- A store as its callers see it.
use Rattle.std.specs.Prelude.{ℕ, refl}
use Rattle.std.specs.Coded.{Coded, code_by, coded×, coded_ℕ}
use Rattle.rga_ops.specs.Content.{Content, content_code}

-- what a store holds, and how many identifiers it may know
pub record Kept : Type 0 where
  pub content : Content
  pub limit : ℕ

abbrev pub kept_code : Coded Kept
kept_code = code_by (Content × ℕ) (coded× content_code coded_ℕ) (λ k. (k.content, k.limit)) (λ p. record { content = p.0; limit = p.1 }) (λ _. refl)
