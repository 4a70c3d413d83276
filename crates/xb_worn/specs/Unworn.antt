-- A dial that is not worn.
use Rattle.std.specs.Prelude.{◌≡◌, List, []}
use Rattle.xb_calls.specs.declared.order.RowOrder.{RowOrder}
use Rattle.xb_calls.specs.Calls.{DialledCall}
use Rattle.xb_calls.specs.Dialling.{dialled}
use Rattle.xb_worn.specs.declared.wear.Wear.{Wear}
use Rattle.xb_worn.specs.WornRows.{worn_rows}

-- it does not slow, and its times do not swing
pub record IsUnworn (wear : Wear) : Type 0 where
  pub steady : wear.slow_percent ≡ 0
  pub even : wear.jitter_ms ≡ 0

-- without faults it sends exactly what is dialled
abbrev pub UnwornDials : Type 0
UnwornDials =
    (order : RowOrder) (wear : Wear) (calls : List DialledCall) → IsUnworn wear
    → worn_rows order wear [] calls ≡ dialled order wear.speed calls
