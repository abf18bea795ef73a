use Rattle.std.proofs.Common.{inl, inr, ℕ, List, Some, None, ap, refl}
use Rattle.mgr_port.proofs.BytesLaws.{as_appended, as_begun, read_known}
use Rattle.mgr_port.proofs.NamingLaws.{held_tried, left_holds, log_holds, log_known, next_log_differs, next_log_is_not_kept, next_text_differs, next_text_is_not_kept, text_holds, text_left, unmade_holds}
use Rattle.mgr_port.proofs.laws.calls_leave_what_a_port_is_held_to.Goals as goal

pub returns-clause-read : goal.returns-clause-read
returns-clause-read c file path next read left now loads = read_known file path next read left now loads

pub returns-clause-added : goal.returns-clause-added
returns-clause-added c file path lines bytes found left longer text old now added known has = as_appended file path left lines longer bytes found text old now added known has

pub returns-clause-failed : goal.returns-clause-failed
returns-clause-failed c file lines bytes found text old now front known has = as_begun file lines bytes found text old now front known has

pub returns-clause-made : goal.returns-clause-made
returns-clause-made c stamp_of file name beside lines found left text old now apart makes holds = λ k. record {
  log = Some (log_holds stamp_of apart None file _ name beside None lines found left old now (next_log_is_not_kept name) makes holds k);
  text = text;
}

pub returns-clause-replaced : goal.returns-clause-replaced
returns-clause-replaced c stamp_of before file name beside lines found standing left log text old now apart makes holds = λ k. record {
  log = Some (log_holds stamp_of apart before file _ name beside standing lines found left old now (next_log_is_not_kept name) makes holds k);
  text = text;
}

pub returns-clause-put : goal.returns-clause-put
returns-clause-put c stamp_of file kept name bytes found own now_own log text old now apart puts holds = λ k. record {
  log = log;
  text = Some (text_holds stamp_of apart file kept _ name bytes found own now_own old now (next_text_is_not_kept name) puts holds k);
}

pub returns-clause-known : goal.returns-clause-known
returns-clause-known c before file path name beside lines standing left old now makes = log_known before file path name beside standing lines left old now makes

pub returns-clause-unmade : goal.returns-clause-unmade
returns-clause-unmade c stamp_of name beside lines found text old now apart not_kept leaves holds =
    (inr (ap (λ (l : List ℕ). Some l) (unmade_holds stamp_of apart None _ name beside None lines found old now (next_log_differs name) (next_log_is_not_kept name) not_kept leaves holds)), refl)

pub returns-clause-unreplaced : goal.returns-clause-unreplaced
returns-clause-unreplaced c stamp_of before file name beside lines bytes found standing text old now apart not_kept leaves other had holds = (
  elim (left_holds stamp_of apart file before _ name beside standing lines found old now (next_log_differs name) (next_log_is_not_kept name) not_kept leaves other holds) [
    | inl held ↦ inl (ap (λ (l : List ℕ). Some l) (had found held))
    | inr is ↦ inr (ap (λ (l : List ℕ). Some l) is)
  ],
  refl,
)

pub returns-clause-unput : goal.returns-clause-unput
returns-clause-unput c stamp_of over dated path name log bytes had found own text other old now tries off_path off_name not_kept not_over held holds =
    ap (λ (l : List ℕ). Some l) (held found (held_tried stamp_of path name log off_path off_name not_kept over dated bytes found own old now tries not_over holds))

pub returns-clause-beside : goal.returns-clause-beside
returns-clause-beside c stamp_of file dated is_there name bytes found own seen made now apart not_kept makes leaves holds =
    text_left stamp_of apart file dated _ name bytes found own is_there seen made now (next_text_differs name) (next_text_is_not_kept name) not_kept makes leaves holds
