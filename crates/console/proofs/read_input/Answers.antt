-- A read puts its bytes after those that were read before.
use Rattle.std.proofs.Common.{◌≡◌, ℕ, ◌+◌, ◌≤◌, List, ◌++◌, length, take, sym, ap, subst, ◌∙◌, rules, length-take-le}
use Rattle.std.proofs.Math.Seq.{take-append-add}
use Rattle.std.proofs.lemmas.List.{take-append-le}
use Rattle.std.specs.Prelude.{Option}
use Rattle.std.specs.Io.KnownBytes.{Consumes}
use Rattle.std.proofs.KnownBytes.{Consumes-trans}
use Rattle.console.proofs.read_input.Goals as goal

-- `front` was taken, and then the first bytes of `got`, which stand behind it
taken_more : (a b c : Option (List ℕ)) (front got rest : List ℕ) (n more : ℕ) → length front ≡ n → more ≤ length got →
    Consumes a b front → Consumes b c (take more got) → Consumes a c (take (n + more) (front ++ (got ++ rest)))
taken_more a b c front got rest n more k h p q =
    let at_front = ap (λ (i : ℕ). take (i + more) (front ++ (got ++ rest))) (sym k) in
    let behind = take-append-add front (got ++ rest) more ∙ ap (λ (l : List ℕ). front ++ l) (take-append-le more got rest h) in
    subst (Consumes a c) (sym (at_front ∙ behind)) (Consumes-trans a b c front (take more got) p q)

pub loop-n-preserved : goal.loop-n-preserved
loop-n-preserved g c = record {
  within = search rules;
  taken = taken_more _ _ _ (take c.loop-n.n c.loop-n.buf) c.read.new.buf _ c.loop-n.n c.in_ok-more.more
      (length-take-le _ _ c.loop-n.invariant.within) c.in_ok-more.ensures.bound.0 c.loop-n.invariant.taken c.in_ok-more.ensures.bytes.0;
}
