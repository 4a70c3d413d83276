-- Worked cases of numbers that go through offices in turn, reckoned by hand.
use Rattle.std.specs.Prelude.{◌≡◌, ℕ, List, [], ◌∷◌}
use Rattle.xb_model.specs.Routing.{CodedRoute, coded_route}
use Rattle.xb_laws.specs.Network.{sent}
use Rattle.xb_laws.specs.Tandem.{keyed_numbers}

-- the three offices of docs/NETWORK.md
abbrev pub office_a : List CodedRoute
office_a = coded_route (2 ∷ 3 ∷ 4 ∷ []) 17 3 (5 ∷ 6 ∷ []) ∷ []

abbrev pub office_b : List CodedRoute
office_b = coded_route (5 ∷ 6 ∷ 5 ∷ []) 30 2 (7 ∷ []) ∷ []

abbrev pub office_c : List CodedRoute
office_c = coded_route (7 ∷ 5 ∷ 6 ∷ []) 41 1 [] ∷ []

-- offices that send all numbers on: without their digits, and with five more
abbrev pub cutting : List CodedRoute
cutting = coded_route [] 1 10 [] ∷ []

abbrev pub adding : List CodedRoute
adding = coded_route [] 1 0 (1 ∷ 2 ∷ 3 ∷ 4 ∷ 5 ∷ []) ∷ []

abbrev pub dialled_there : List ℕ
dialled_there = 2 ∷ 3 ∷ 4 ∷ 5 ∷ 6 ∷ 7 ∷ 8 ∷ []

pub record AreSentAsWorked : Type 0 where
  -- what B takes, what C takes, and what C keys
  pub into_b : sent [] (keyed_numbers office_a (dialled_there ∷ [])) ≡ (5 ∷ 6 ∷ 5 ∷ 6 ∷ 7 ∷ 8 ∷ []) ∷ []
  pub into_c : sent (office_b ∷ []) (keyed_numbers office_a (dialled_there ∷ [])) ≡ (7 ∷ 5 ∷ 6 ∷ 7 ∷ 8 ∷ []) ∷ []
  pub beyond_c : sent (office_b ∷ office_c ∷ []) (keyed_numbers office_a (dialled_there ∷ []))
      ≡ (5 ∷ 6 ∷ 7 ∷ 8 ∷ []) ∷ []
  -- a number of no route, in A and in B: the others go on in their order
  pub no_route : sent (office_b ∷ [])
      (keyed_numbers office_a
      ((2 ∷ 3 ∷ 4 ∷ 5 ∷ 1 ∷ []) ∷ (2 ∷ 3 ∷ 5 ∷ []) ∷ (2 ∷ 3 ∷ 4 ∷ 6 ∷ []) ∷ (2 ∷ 3 ∷ 4 ∷ 5 ∷ 2 ∷ []) ∷ []))
      ≡ (7 ∷ 5 ∷ 1 ∷ []) ∷ (7 ∷ 5 ∷ 2 ∷ []) ∷ []
  -- KP and ST alone are a number of no digit, for which the next office keys nothing
  pub no_digit : sent (cutting ∷ []) (dialled_there ∷ []) ≡ [] ∷ []
  pub after_none : sent (cutting ∷ adding ∷ []) (dialled_there ∷ []) ≡ []
  -- so it is with twelve digits
  pub twelve : sent (adding ∷ []) (dialled_there ∷ [])
      ≡ (1 ∷ 2 ∷ 3 ∷ 4 ∷ 5 ∷ 2 ∷ 3 ∷ 4 ∷ 5 ∷ 6 ∷ 7 ∷ 8 ∷ []) ∷ []
  pub after_twelve : sent (adding ∷ adding ∷ []) (dialled_there ∷ []) ≡ []
