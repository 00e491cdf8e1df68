-- Laws: every cause has a number, so that a number of 0 says that a call is accepted. Assumes nothing.
use Rattle.std.specs.Prelude.{◌<◌}
use native.Mathlib.Omega.{arith}
use Rattle.base.specs.declared.Refusal.{Refusal}
use Rattle.base.specs.declared.Refusal.TheVariants.{Settings, WordCount, Clients, Client, Clock, Unreadable, Window, Phase, ClearBit, File, TooLarge, Calendar, Order, Closed}
use Rattle.base.specs.rules.Refusals.{number_of}

pub some_number : (refusal : Refusal) → 0 < number_of refusal
some_number Settings = omega arith
some_number WordCount = omega arith
some_number Clients = omega arith
some_number Client = omega arith
some_number Clock = omega arith
some_number Unreadable = omega arith
some_number Window = omega arith
some_number Phase = omega arith
some_number ClearBit = omega arith
some_number File = omega arith
some_number TooLarge = omega arith
some_number Calendar = omega arith
some_number Order = omega arith
some_number Closed = omega arith
