-- Why there are no tapes.
use Rattle.std.specs.Prelude.{◌≡◌, ◌≢◌, ℕ, ◌<◌, Option, Some}
use Rattle.xb_model.specs.declared.fault.RowFault.{RowFault}
use Rattle.xb_model.specs.declared.fault.RowFault.TheVariants as row
use Rattle.xb_flow.specs.declared.post.Post.{Post}
use Rattle.xb_flow.specs.declared.post.Post.TheVariants.{Feed, Pulse, Register, Translate, Deal, Send, Gather, Tape}
use Rattle.xb_run.specs.declared.fault.BankFault.{BankFault}
use Rattle.xb_run.specs.declared.fault.BankFault.TheVariants.{NoMemory, NoThread, Rows}

-- the fault of the bank that a fault of its rows is
abbrev pub bank_fault_of : RowFault → BankFault
bank_fault_of row.NoMemory = NoMemory
bank_fault_of fault = Rows fault

-- the post is one of a chain with so many senders
abbrev pub IsPostOf : ℕ → Post → Type 0
IsPostOf senders Feed = Unit {0}
IsPostOf senders Pulse = Unit {0}
IsPostOf senders Register = Unit {0}
IsPostOf senders Translate = Unit {0}
IsPostOf senders Deal = Unit {0}
IsPostOf senders (Send number) = number < senders
IsPostOf senders Gather = Unit {0}
IsPostOf senders Tape = Unit {0}

-- the post that could not be started is one of the chain; a fault of the rows is the source's stop, and
-- not that memory ran out
abbrev pub IsBankFault : ℕ → Option RowFault → BankFault → Type 0
IsBankFault senders stop NoMemory = Unit {0}
IsBankFault senders stop (NoThread post) = IsPostOf senders post
IsBankFault senders stop (Rows fault) = (stop ≡ Some fault) × (fault ≢ row.NoMemory)
