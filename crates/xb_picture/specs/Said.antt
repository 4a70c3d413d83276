-- What a sheet says so far: the words of its elements, but for the picture's own.
use Rattle.std.specs.Prelude.{ℕ, List}
use Rattle.xb_svg.specs.Drawings.{says as said}
use Rattle.xb_picture.specs.declared.sheet.Sheet.{Sheet}

abbrev pub says : Sheet → List (List ℕ)
says sheet = said sheet.elements.items
