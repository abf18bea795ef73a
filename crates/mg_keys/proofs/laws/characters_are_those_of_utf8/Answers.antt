use Rattle.mg_keys.proofs.Utf8Laws.{utf8_read, utf8_begins, only_utf8}
use Rattle.mg_keys.proofs.laws.characters_are_those_of_utf8.Goals as goal

pub returns : goal.returns
returns c = record { encoded = utf8_read; only_those = only_utf8; beginnings = utf8_begins }
