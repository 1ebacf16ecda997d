-- Numbers put into the records of a stored table. [01, The stored table] [02, R-5]
use Rattle.std.specs.Prelude.{Bool, cond, ◌&&◌, List, ◌++◌, ℕ, zero, suc, leb, length, take, drop, get_or}
use Rattle.rules.specs.Trees.{le2}
use Rattle.laws.specs.Places.{two_at}

-- a record stands in front, as long as its first two bytes say, with place for a number behind its kind
abbrev pub is_record : List ℕ → Bool
is_record s = leb 6 (two_at s 0) && leb (two_at s 0) (length s)

-- n records one behind the other: behind its length and kind each gets the next of the numbers, or 0 where there is
-- none. Bytes that are no whole record stay, and all behind them.
unfoldable pub numbered : ℕ → List ℕ → List ℕ → List ℕ
numbered zero numbers s = s
numbered (suc n) numbers s =
    cond (is_record s)
    (take 4 s
    ++ (le2 (get_or numbers 0 0)
    ++ (drop 6 (take (two_at s 0) s) ++ numbered n (drop 1 numbers) (drop (two_at s 0) s))))
    s
