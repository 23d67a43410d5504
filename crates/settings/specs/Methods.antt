-- The names of the methods.
use Rattle.std.specs.Prelude.{ℕ, List, codes, nat_eq, nat_le, ◌==◌, Bool, Option, Some, None, if◌then◌else◌}
use Rattle.std.specs.Cmp.Lexicographic.{pointwise}
use Rattle.settings.specs.declared.methods.Method.{Method}
use Rattle.settings.specs.declared.methods.MethodChoice.{MethodChoice}
use Rattle.settings.specs.declared.methods.MethodChoice.TheVariants.{Named, Auto}
use Rattle.settings.specs.declared.methods.Method.TheVariants.{Plain, Ssv, Select, Fence, Strong, StrongFence}

abbrev pub method_text : Method → List ℕ
method_text Plain = codes "plain"
method_text Ssv = codes "ssv"
method_text Select = codes "select"
method_text Fence = codes "fence"
method_text Strong = codes "strong"
method_text StrongFence = codes "strong-fence"

abbrev pub is_name : List ℕ → Method → Bool
is_name word method = pointwise nat_eq word (method_text method)

-- the method with a given name
abbrev pub method_named : List ℕ → Option Method
method_named word =
    if is_name word Plain then Some Plain
    else (if is_name word Ssv then Some Ssv
    else (if is_name word Select then Some Select
    else (if is_name word Fence then Some Fence
    else (if is_name word Strong then Some Strong
    else (if is_name word StrongFence then Some StrongFence
    else None)))))

-- ---- choices

abbrev pub named : Option Method → Option MethodChoice
named None = None
named (Some method) = Some (Named method)

-- the choice with a given name
abbrev pub choice_named : List ℕ → Option MethodChoice
choice_named word = if pointwise nat_eq word (codes "auto") then Some Auto else named (method_named word)

-- The method for tables of `inputs` inputs and `outputs` outputs.
-- Example: for five inputs and one output `auto` takes `strong-fence`.
abbrev pub method_for : MethodChoice → ℕ → ℕ → Method
method_for (Named method) inputs outputs = method
method_for Auto inputs outputs = if nat_le inputs 3 then Ssv else (if outputs == 1 then StrongFence else Strong)
