-- Worked cases of what comes of keys, reckoned by hand.
use Rattle.std.specs.Prelude.{◌≡◌, ℕ, [], ◌∷◌}
use Rattle.xb_model.specs.declared.dialled.Dialled.TheVariants.{Number, Refused}
use Rattle.xb_model.specs.declared.reason.Reason.TheVariants.{Mutilated, Unknown, Abandoned, TimedOut}
use Rattle.xb_incoming.specs.declared.key.Symbol.{Symbol}
use Rattle.xb_incoming.specs.declared.key.Symbol.TheVariants.{Digit, Kp, St, Other}
use Rattle.xb_incoming.specs.declared.key.TimedKey.{TimedKey}
use Rattle.xb_incoming.specs.declared.key.TheConstants.{TIME_OUT_MS}
use Rattle.xb_incoming.specs.Attempts.{outcomes}

abbrev pub key : Symbol → ℕ → ℕ → TimedKey
key what b e = record { what = what; begin_ms = b; end_ms = e }

pub record AreAsWorked : Type 0 where
  -- a number
  pub case_1 : outcomes TIME_OUT_MS
      (key Kp 0 68 ∷ key (Digit 2) 136 204 ∷ key (Digit 3) 272 340 ∷ key (Digit 4) 408 476
      ∷ key (Digit 5) 544 612 ∷ key (Digit 6) 680 748 ∷ key (Digit 7) 816 884
      ∷ key (Digit 8) 952 1020 ∷ key St 1088 1156 ∷ [])
      ≡ Number (2 ∷ 3 ∷ 4 ∷ 5 ∷ 6 ∷ 7 ∷ 8 ∷ []) ∷ []
  -- no key at all
  pub case_2 : outcomes TIME_OUT_MS []
      ≡ []
  -- keys outside a keying
  pub case_3 : outcomes TIME_OUT_MS
      (key (Digit 2) 0 68 ∷ key St 136 204 ∷ key Other 272 340 ∷ key (Digit 3) 408 476 ∷ [])
      ≡ []
  -- one digit
  pub case_4 : outcomes TIME_OUT_MS
      (key Kp 0 68 ∷ key (Digit 0) 136 204 ∷ key St 272 340 ∷ [])
      ≡ Number (0 ∷ []) ∷ []
  -- KP and ST alone
  pub case_5 : outcomes TIME_OUT_MS
      (key Kp 0 68 ∷ key St 136 204 ∷ [])
      ≡ Refused Unknown 0 ∷ []
  -- ten digits
  pub case_6 : outcomes TIME_OUT_MS
      (key Kp 0 68 ∷ key (Digit 2) 136 204 ∷ key (Digit 1) 272 340 ∷ key (Digit 2) 408 476
      ∷ key (Digit 5) 544 612 ∷ key (Digit 5) 680 748 ∷ key (Digit 5) 816 884
      ∷ key (Digit 0) 952 1020 ∷ key (Digit 1) 1088 1156 ∷ key (Digit 2) 1224 1292
      ∷ key (Digit 3) 1360 1428 ∷ key St 1496 1564 ∷ [])
      ≡ Number (2 ∷ 1 ∷ 2 ∷ 5 ∷ 5 ∷ 5 ∷ 0 ∷ 1 ∷ 2 ∷ 3 ∷ []) ∷ []
  -- eleven digits
  pub case_7 : outcomes TIME_OUT_MS
      (key Kp 0 68 ∷ key (Digit 1) 136 204 ∷ key (Digit 2) 272 340 ∷ key (Digit 1) 408 476
      ∷ key (Digit 2) 544 612 ∷ key (Digit 5) 680 748 ∷ key (Digit 5) 816 884
      ∷ key (Digit 5) 952 1020 ∷ key (Digit 0) 1088 1156 ∷ key (Digit 1) 1224 1292
      ∷ key (Digit 2) 1360 1428 ∷ key (Digit 3) 1496 1564 ∷ key St 1632 1700 ∷ [])
      ≡ Refused Unknown 11 ∷ []
  -- two numbers, 68 ms apart
  pub case_8 : outcomes TIME_OUT_MS
      (key Kp 0 68 ∷ key (Digit 1) 136 204 ∷ key St 272 340 ∷ key Kp 408 476 ∷ key (Digit 2) 544 612
      ∷ key St 680 748 ∷ [])
      ≡ Number (1 ∷ []) ∷ Number (2 ∷ []) ∷ []
  -- a second KP: the rest is not heard
  pub case_9 : outcomes TIME_OUT_MS
      (key Kp 0 68 ∷ key (Digit 1) 136 204 ∷ key (Digit 2) 272 340 ∷ key Kp 408 476
      ∷ key (Digit 3) 544 612 ∷ key St 680 748 ∷ [])
      ≡ Refused Mutilated 2 ∷ []
  -- a pair that is none
  pub case_10 : outcomes TIME_OUT_MS
      (key Kp 0 68 ∷ key (Digit 1) 136 204 ∷ key Other 272 340 ∷ key (Digit 3) 408 476
      ∷ key St 544 612 ∷ [])
      ≡ Refused Mutilated 1 ∷ []
  -- it hears again after 500 ms
  pub case_11 : outcomes TIME_OUT_MS
      (key Kp 0 68 ∷ key (Digit 1) 136 204 ∷ key Other 272 340 ∷ key Kp 840 908
      ∷ key (Digit 4) 976 1044 ∷ key St 1112 1180 ∷ [])
      ≡ Refused Mutilated 1 ∷ Number (4 ∷ []) ∷ []
  -- but not after 499
  pub case_12 : outcomes TIME_OUT_MS
      (key Kp 0 68 ∷ key (Digit 1) 136 204 ∷ key Other 272 340 ∷ key Kp 839 907
      ∷ key (Digit 4) 975 1043 ∷ key St 1111 1179 ∷ [])
      ≡ Refused Mutilated 1 ∷ []
  -- after the silence a digit is outside
  pub case_13 : outcomes TIME_OUT_MS
      (key Kp 0 68 ∷ key Other 136 204 ∷ key (Digit 3) 804 872 ∷ key St 940 1008 ∷ key Kp 1076 1144
      ∷ key (Digit 5) 1212 1280 ∷ key St 1348 1416 ∷ [])
      ≡ Refused Mutilated 0 ∷ Number (5 ∷ []) ∷ []
  -- a time-out inside: the digit and the ST after it are outside
  pub case_14 : outcomes TIME_OUT_MS
      (key Kp 0 68 ∷ key (Digit 1) 136 204 ∷ key (Digit 2) 10204 10272 ∷ key St 10340 10408 ∷ [])
      ≡ Refused TimedOut 1 ∷ []
  -- one ms less is none
  pub case_15 : outcomes TIME_OUT_MS
      (key Kp 0 68 ∷ key (Digit 1) 136 204 ∷ key (Digit 2) 10203 10271 ∷ key St 10339 10407 ∷ [])
      ≡ Number (1 ∷ 2 ∷ []) ∷ []
  -- a KP after a time-out opens
  pub case_16 : outcomes TIME_OUT_MS
      (key Kp 0 68 ∷ key (Digit 1) 136 204 ∷ key Kp 20000 20068 ∷ key (Digit 2) 20136 20204
      ∷ key St 20272 20340 ∷ [])
      ≡ Refused TimedOut 1 ∷ Number (2 ∷ []) ∷ []
  -- the keys end in a keying
  pub case_17 : outcomes TIME_OUT_MS
      (key Kp 0 68 ∷ key (Digit 1) 136 204 ∷ key (Digit 2) 272 340 ∷ key (Digit 3) 408 476 ∷ [])
      ≡ Refused Abandoned 3 ∷ []
  -- or with its KP
  pub case_18 : outcomes TIME_OUT_MS
      (key Kp 0 68 ∷ [])
      ≡ Refused Abandoned 0 ∷ []
  -- mutilated, and the keys end while it is deaf
  pub case_20 : outcomes TIME_OUT_MS
      (key Kp 0 68 ∷ key (Digit 7) 136 204 ∷ key Kp 272 340 ∷ key Kp 408 476 ∷ key (Digit 8) 544 612
      ∷ key St 680 748 ∷ [])
      ≡ Refused Mutilated 1 ∷ []
  -- a time-out of 3,000 ms
  pub case_19 : outcomes 3000
      (key Kp 0 68 ∷ key (Digit 1) 3068 3136 ∷ key Kp 3204 3272 ∷ key (Digit 2) 6271 6339 ∷ key St 6407 6475 ∷ [])
      ≡ Refused TimedOut 0 ∷ Number (2 ∷ []) ∷ []
