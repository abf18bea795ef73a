-- What holds in each case of a result.
use Rattle.std.proofs.Common.{◌≡◌, true, false, true≢false, sym, subst}
use Rattle.std.specs.Prelude.{Result, Ok, Err, OnOk, OnErr, is_ok}

pub on_ok_map : {T E P Q : Type 0} (r : Result T E) → (P → Q) → OnOk r P → OnOk r Q
on_ok_map (Ok x) f h = f h
on_ok_map (Err y) f h = h

pub on_err_map : {T E P Q : Type 0} (r : Result T E) → (P → Q) → OnErr r P → OnErr r Q
on_err_map (Ok x) f h = h
on_err_map (Err y) f h = f h

-- what holds anyway holds where there is an error
pub on_err_always : {T E P : Type 0} (r : Result T E) → P → OnErr r P
on_err_always (Ok x) h = tt
on_err_always (Err y) h = h

pub from_is_ok : {T E P : Type 0} (r : Result T E) → is_ok r ≡ true → OnOk r P → P
from_is_ok (Ok x) t h = h
from_is_ok (Err y) t h = absurd (true≢false (sym t))

pub from_not_ok : {T E P : Type 0} (r : Result T E) → is_ok r ≡ false → OnErr r P → P
from_not_ok (Ok x) f h = absurd (true≢false f)
from_not_ok (Err y) f h = h

-- what holds of both values holds whether a call was answered or refused
pub either_way : {T E X : Type 0} (P : X → Type 0) (r : Result T E) (new x y : X) → OnOk r (new ≡ x) → OnErr r (new ≡ y) → P x → P y → P new
either_way P (Ok t) new x y ok err h k = subst P (sym ok) h
either_way P (Err t) new x y ok err h k = subst P (sym err) k
