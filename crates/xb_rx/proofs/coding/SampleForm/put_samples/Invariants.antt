use Rattle.std.proofs.Common.{◌≡◌, ◌*◌, ◌-◌, ◌++◌, drop, take}
use Rattle.xb_rx.specs.Samples.{channel_of, frame_bytes}
use Rattle.xb_rx.proofs.coding.SampleForm.put_samples.Given as goal

abbrev pub invariant-loop-n : goal.invariant-loop-n
invariant-loop-n l =
    take l.n l.samples ++ channel_of l.self (l.self.frames - l.n) (drop (l.n * frame_bytes l.self) l.group)
    ≡ channel_of l.self l.self.frames l.group
