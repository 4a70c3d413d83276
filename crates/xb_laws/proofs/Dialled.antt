-- What the register of the next office takes of numbers that are dialled.
use Rattle.xb_calls.specs.Dialling.{numbers_on}
use Rattle.xb_calls.specs.Heard.{DialledIsHeard}
use Rattle.xb_laws.specs.Tandem.{NumbersAreRegistered}
use Rattle.xb_laws.specs.Dialled.{DialledIsRegistered}

pub dialled-registered : DialledIsHeard → NumbersAreRegistered → DialledIsRegistered
dialled-registered dialled taken plan limits a b speed calls rows l cadence samples limit are so complete lawful fits
    have hearable outlasts within =
    taken plan limits a b rows l (numbers_on l calls) cadence samples limit
    ((dialled speed calls rows are so).heard plan limits complete lawful fits l) have hearable outlasts within
