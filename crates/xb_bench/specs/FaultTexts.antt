-- The text of each fault.
use Rattle.std.specs.Prelude.{ℕ, ◌++◌, List, codes}
use Rattle.xb_command.specs.FaultTexts.{one_line}
use Rattle.xb_feed.specs.FaultTexts.{recording_text}
use Rattle.xb_bench.specs.declared.fault.BenchFault.{BenchFault}
use Rattle.xb_bench.specs.declared.fault.BenchFault.TheVariants as bench

-- of a dial that is not told of
abbrev pub bench_text : BenchFault → List ℕ
bench_text (bench.Recording fault) = recording_text fault
bench_text (bench.NoWire fault name) =
    codes "the recording has no wire " ++ one_line name.now ++ codes "; " ++ recording_text fault
bench_text bench.Write = codes "the lines could not be written"
bench_text bench.NoMemory = codes "out of memory"
