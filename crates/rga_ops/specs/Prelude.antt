-- What most clauses cite, of the crates above too.
pub use Rattle.rga_ops.specs.Identifier.{Identifier, is_id, is_root}
pub use Rattle.rga_ops.specs.Operation.{checked, id_of}
pub use Rattle.rga_ops.specs.Content.{Content, nothing, element_at, known_ids, known_count, clock_of, join, single, content_of, Agree, IsSound}
pub use Rattle.rga_ops.specs.Order.{order, text}
pub use Rattle.rga_ops.specs.Places.{visible, place}
pub use Rattle.rga_ops.specs.Operations.{operations}
pub use Rattle.rga_ops.specs.Answer.{answer, taken}
pub use Rattle.rga_ops.specs.ListAnswer.{IsAnswer, list_answer, merge_answer, all_checked}
pub use Rattle.rga_ops.specs.Memory.{Memory}
