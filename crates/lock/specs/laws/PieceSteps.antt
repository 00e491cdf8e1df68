-- How many steps a piece, and a window's pieces, need on an otherwise idle tree. Their laws: proofs/laws/PieceSteps.antt. Assumes nothing.
use Rattle.std.specs.Prelude.{List, [], ◌∷◌, eqb}
use Prim.Native.Nat.{ℕ, ◌+◌}
use Rattle.std.proofs.Math.ListN.{length}
use Rattle.base.specs.rules.Choice.{choose}
use Rattle.base.specs.laws.Sum.{sum_by}
use Rattle.tree.specs.rules.Tree.{level}
use Rattle.tree.specs.rules.Lists.{ancestors, notify_list, check_list}

-- a step for each ancestor, one for the claim, and one for each notice
unfoldable pub claim_steps : ℕ → ℕ → ℕ
claim_steps m n = length (ancestors n) + 1 + length (notify_list m n)

-- an inner node also has ticket and turn before these, and behind them the wait and a step for each node of its check list
unfoldable pub piece_steps : ℕ → ℕ → ℕ → ℕ
piece_steps h m n = choose (eqb (level n) h) (claim_steps m n) (2 + claim_steps m n + 1 + length (check_list h m n))

-- of all pieces
abbrev pub cover_steps : ℕ → ℕ → List ℕ → ℕ
cover_steps h m c = sum_by (piece_steps h m) c

-- of one or two, second 0 for none
unfoldable pub pieces_steps : ℕ → ℕ → ℕ → ℕ → ℕ
pieces_steps h m n second = cover_steps h m (choose (eqb second 0) (n ∷ []) (n ∷ second ∷ []))
