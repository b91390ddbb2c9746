-- What holds of a result, in case it is an error or in case it is none.
use Rattle.std.specs.Prelude.{◌≡◌, Result, Ok, Err, OnOk, OnErr, false, is_err}

-- what holds on success holds where there is no error
pub without_err : {T E P : Type 0} (result : Result T E) → is_err result ≡ false → OnOk result P → P
without_err (Ok value) is holds = holds
without_err (Err fault) is holds = absurd (cc)

-- what holds anyway holds on an error
pub on_err : {T E P : Type 0} (result : Result T E) → P → OnErr result P
on_err (Ok value) holds = tt
on_err (Err fault) holds = holds
