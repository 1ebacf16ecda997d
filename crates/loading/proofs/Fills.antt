-- What stands in front of a buffer after one more read.
use Rattle.std.proofs.Common.{◌≡◌, ℕ, ◌+◌, ◌≤◌, List, ◌++◌, length, take, sym, ap, ◌∙◌, length-take-le}
use Rattle.std.proofs.lemmas.List.{take-append-le}
use Rattle.std.proofs.Math.Seq.{take-append-add}

pub take_read : (out part rest : List ℕ) (n m : ℕ) → n ≤ length out → m ≤ length part
    → take (n + m) (take n out ++ (part ++ rest)) ≡ take n out ++ take m part
take_read out part rest n m le le' =
    ap (λ (k : ℕ). take (k + m) (take n out ++ (part ++ rest))) (sym (length-take-le n out le))
    ∙ take-append-add (take n out) (part ++ rest) m
    ∙ ap (λ (l : List ℕ). take n out ++ l) (take-append-le m part rest le')
