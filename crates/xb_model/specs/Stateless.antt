-- Stages that keep no state.
use Rattle.std.specs.Prelude.{List}
use Rattle.xb_model.specs.declared.on.On.{On}
use Rattle.xb_model.specs.Image.{Machine}
use Rattle.xb_model.specs.OnLines.{whats_on_lines}

-- a stage that sends what f says, whatever came before
abbrev pub stateless : {A B : Type 0} → (A → List B) → Machine (On A) (On B) (Unit {0})
stateless f = whats_on_lines tt (λ state what. tt) (λ state what. f what)
