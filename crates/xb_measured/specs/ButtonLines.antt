-- The line that tells of digits of a push-button telephone.
use Rattle.std.specs.Prelude.{ℕ, ◌*◌, ◌==◌, List, [], ◌++◌, codes, if◌then◌else◌, min, ◌^◌, ◌-◌}
use Rattle.xb_measured.specs.Seconds.{seconds_text}

-- a block lasts 20 ms
abbrev pub buttons_line : ℕ → List ℕ
buttons_line blocks =
    if blocks == 0 then []
    else codes "mfrx: digits of a push-button telephone (DTMF) sound for "
    ++ (seconds_text (min (blocks * 20) (2 ^ 64 - 1)) ++ codes " s of it\n")
