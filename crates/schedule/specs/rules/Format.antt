-- To be believed: document 01, section "The schedule program", and document 02, request 2.2: the format of a schedule over its bytes, the calls in it, what is refused,
-- and what is lent to the opening. Assumes nothing.
use Rattle.std.specs.Prelude.{Bool, false, ◌||◌, List, [], ◌∷◌, ℕ, zero, suc, ◌+◌, ◌*◌, eqb, ltb, length, get_or, replicate}
use Rattle.base.specs.rules.Choice.{choose}
use Rattle.tree.specs.rules.Tree.{word_count}
use Rattle.lock.specs.declared.Settings.{Settings}
use Rattle.lock.specs.rules.Records.{idle_client}
use Rattle.lock.specs.rules.Unreadable.{differ}
use Rattle.lock.specs.rules.Calls.{first_cause}
use Rattle.lock.specs.rules.Table.{State, Call}
use Rattle.lock.specs.rules.ByValue.{call_of}

-- "little-endian": the number that k bytes from place i on hold
unfoldable pub little : ℕ → List ℕ → ℕ → ℕ
little zero bytes i = 0
little (suc k) bytes i = get_or bytes i 0 + 256 * little k bytes (suc i)

-- ---- "Header of 16 bytes: u16 H, u16 m, u32 T, u16 clients, u16 count of calls, u32 offset of the first."; 2.2, "A schedule's header gains u32 P at byte 16"

unfoldable pub settings_in : List ℕ → Settings
settings_in bytes = record { levels = little 2 bytes 0; distance = little 2 bytes 2; wait = little 4 bytes 4; patience = little 4 bytes 16 }

unfoldable pub clients_in : List ℕ → ℕ
clients_in bytes = little 2 bytes 8

unfoldable pub count_in : List ℕ → ℕ
count_in bytes = little 2 bytes 10

unfoldable pub offset_in : List ℕ → ℕ
offset_in bytes = little 4 bytes 12

-- ---- "A call has 24 bytes: u8 kind (0 request, 1 step, 2 release, 3 cancel), u8 0, u16 client, u32 0, u64 a, u64 b."

-- where call k begins
unfoldable pub place_of : List ℕ → ℕ → ℕ
place_of bytes k = offset_in bytes + 24 * k

unfoldable pub kind_in : List ℕ → ℕ → ℕ
kind_in bytes k = get_or bytes (place_of bytes k) 0

unfoldable pub client_in : List ℕ → ℕ → ℕ
client_in bytes k = little 2 bytes (place_of bytes k + 2)

unfoldable pub a_in : List ℕ → ℕ → ℕ
a_in bytes k = little 8 bytes (place_of bytes k + 8)

unfoldable pub b_in : List ℕ → ℕ → ℕ
b_in bytes k = little 8 bytes (place_of bytes k + 16)

-- call k; "Request: a = l, b = r. Step: a = clock, b = 0. Else both 0."
unfoldable pub call_in : List ℕ → ℕ → Call
call_in bytes k = call_of (kind_in bytes k) (client_in bytes k) (a_in bytes k) (b_in bytes k)

-- n calls from call k on
unfoldable pub calls_from : List ℕ → ℕ → ℕ → List Call
calls_from bytes k zero = []
calls_from bytes k (suc n) = call_in bytes k ∷ calls_from bytes (suc k) n

unfoldable pub calls_in : List ℕ → List Call
calls_in bytes = calls_from bytes 0 (count_in bytes)

-- ---- "an unknown kind or a filled zero field"

unfoldable pub call_wrong : List ℕ → ℕ → Bool
call_wrong bytes k =
    ltb 3 (kind_in bytes k) || differ (get_or bytes (place_of bytes k + 1) 0) 0 || differ (little 4 bytes (place_of bytes k + 4)) 0
    || choose (eqb (kind_in bytes k) 0) false (differ (b_in bytes k) 0 || choose (eqb (kind_in bytes k) 1) false (differ (a_in bytes k) 0))

-- one of the calls below n is
unfoldable pub any_wrong : List ℕ → ℕ → Bool
any_wrong bytes zero = false
any_wrong bytes (suc k) = any_wrong bytes k || call_wrong bytes k

-- ---- "A file too long or short, an offset below 16, an offset plus 24 × calls over the file's length, an unknown kind or a filled zero field: `refused 10`."; 2.2, "its
-- least offset is 20"

unfoldable pub malformed : List ℕ → Bool
malformed bytes =
    ltb 65536 (length bytes) || (ltb (length bytes) 20 || (ltb (offset_in bytes) 20 || (ltb (length bytes) (place_of bytes (count_in bytes)) || any_wrong bytes (count_in bytes))))

-- "H over 6 or clients over 64: `refused 11`, tested after 10."
unfoldable pub too_large : List ℕ → Bool
too_large bytes = ltb 6 (settings_in bytes).levels || ltb 64 (clients_in bytes)

unfoldable pub file_cause : List ℕ → ℕ
file_cause bytes = first_cause ((malformed bytes, 10) ∷ (too_large bytes, 11) ∷ [])

-- ---- what is lent to the opening: as many words as the tree has, and the clients

unfoldable pub lent_for : Settings → ℕ → State
lent_for s clients = record { words = replicate (word_count s.levels) 0; clients = replicate clients idle_client }
