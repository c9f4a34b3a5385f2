-- Document 02, P6: each board gets a limit on the data bytes of one transaction, 4 to 54.
use Rattle.std.specs.Prelude.{Bool, ◌&&◌, ℕ, leb}
use Rattle.adv7194_bus.specs.Kind.{register_count}

-- the shortest limit: the subcarrier word's registers are written together
abbrev pub least_limit : ℕ
least_limit = 4

-- the longest limit: all registers, so that no transaction is longer
abbrev pub no_limit : ℕ
no_limit = register_count

-- a limit is right where it is one of these or between them
abbrev pub limit_right : ℕ → Bool
limit_right limit = leb least_limit limit && leb limit no_limit
