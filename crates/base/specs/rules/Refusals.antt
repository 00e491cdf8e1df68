-- To be believed: document 01's table "Refused calls, in order of testing" (1 to 9) and its section "The schedule program" (10 and 11), and document 02's request 2.6 (12 to 14): each cause has its number. Assumes nothing.
use Rattle.std.specs.Prelude.{ℕ, Result, Ok, Err}
use Rattle.base.specs.declared.Refusal.{Refusal}
use Rattle.base.specs.declared.Refusal.TheVariants.{Settings, WordCount, Clients, Client, Clock, Unreadable, Window, Phase, ClearBit, File, TooLarge, Calendar, Order, Closed}

abbrev pub number_of : Refusal → ℕ
number_of Settings = 1
number_of WordCount = 2
number_of Clients = 3
number_of Client = 4
number_of Clock = 5
number_of Unreadable = 6
number_of Window = 7
number_of Phase = 8
number_of ClearBit = 9
number_of File = 10
number_of TooLarge = 11
number_of Calendar = 12
number_of Order = 13
number_of Closed = 14

-- 0 accepted, else the number of the cause
abbrev pub number_in : {A : Type 0} → Result A Refusal → ℕ
number_in (Ok _) = 0
number_in (Err r) = number_of r
