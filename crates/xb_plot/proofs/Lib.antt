mod LastTurns
