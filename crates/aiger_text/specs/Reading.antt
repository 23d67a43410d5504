-- The parser's results, compared with the grammar's.
use Rattle.std.specs.Prelude.{◌≡◌, Result, Ok, Err}
use Rattle.net_core.specs.declared.error.NetError.{NetError}
use Rattle.net_core.specs.declared.error.NetError.TheVariants.{Memory}

infixl 10 ◌>>=◌
-- monadic bind: the function is applied to a value, and an error stays
abbrev pub ◌>>=◌ : {A B : Type 0} → Result A NetError → (A → Result B NetError) → Result B NetError
(Ok x) >>= f = f x
(Err e) >>= f = Err e

-- The error is the grammar's. Out of memory is always possible.
abbrev pub Fails : {Y : Type 0} → NetError → Result Y NetError → Type 0
Fails Memory read = Unit {0}
Fails e read = read ≡ Err e

-- The result, mapped by `view`, is the grammar's, unless the error is out of memory.
abbrev pub Gives : {X Y : Type 0} → (X → Y) → Result X NetError → Result Y NetError → Type 0
Gives view (Ok x) read = read ≡ Ok (view x)
Gives view (Err e) read = Fails e read
