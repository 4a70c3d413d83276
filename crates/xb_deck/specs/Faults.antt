-- What is returned where a part of a deck is refused.
use Rattle.std.specs.Prelude.{◌≡◌, ◌≢◌, ◌⊎◌}
use Rattle.xb_model.specs.declared.fault.RowFault.{RowFault}
use Rattle.xb_model.specs.declared.fault.RowFault.TheVariants as row_fault
use Rattle.xb_routes.specs.declared.fault.RouteFault.{RouteFault}
use Rattle.xb_routes.specs.declared.fault.RouteFault.TheVariants as route_fault
use Rattle.xb_text.specs.declared.reading.ReadFault.{ReadFault}
use Rattle.xb_text.specs.declared.reading.ReadFault.TheVariants as read_fault
use Rattle.xb_deck.specs.declared.fault.DeckFault.{DeckFault}
use Rattle.xb_deck.specs.declared.fault.DeckFault.TheVariants as fault

abbrev pub of_read : ReadFault → DeckFault
of_read read_fault.Failed = fault.Read
of_read read_fault.TooLong = fault.TooLong
of_read read_fault.NoMemory = fault.NoMemory

-- running out of memory is one fault, in whatever part
abbrev pub IsOfRoutes : RouteFault → DeckFault → Type 0
IsOfRoutes f e = ((f ≡ route_fault.NoMemory) × (e ≡ fault.NoMemory))
    ⊎ ((f ≢ route_fault.NoMemory) × (e ≡ fault.Routes f))

abbrev pub IsOfRows : RowFault → DeckFault → Type 0
IsOfRows f e = ((f ≡ row_fault.NoMemory) × (e ≡ fault.NoMemory))
    ⊎ ((f ≢ row_fault.NoMemory) × (e ≡ fault.Rows f))
