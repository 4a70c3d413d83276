-- Two lists, place by place.
use Rattle.std.specs.Prelude.{List}
use Rattle.std.specs.List.{AllZip}

-- the lists are as long, and R holds of what stands at each place of the two
pub record Pairs {A B : Type 0} (R : A → B → Type 0) (xs : List A) (ys : List B) : Type 0 where
  pub all : AllZip R xs ys
