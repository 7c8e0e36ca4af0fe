-- Question 8: what a yes says.
use Prim.Native.Nat.{ℕ, ◌+◌, ◌*◌, ◌≤◌, ◌<◌}
use mathlib.Core.Path.{◌≡◌, sym, ap, ◌∙◌}
use mathlib.Core.Bool.{Bool, true, ◌||◌, false≢true, or-false}
use native.Mathlib.Omega.{arith}
use lib.Dec.{eqb, leb, ltb}
use lib.ListN.{length}
use borrow.Author.Tests.{leb-true, ltb-true, eqb-true, eq-eqb, ne_eqb}
use Rattle.quantity.proofs.Choice.{if_case, both_true}
use Rattle.member.specs.declared.Load.{Load}
use Rattle.member.specs.declared.Load.TheVariants.{Uniform, Point}
use Rattle.member.specs.Member.{Beam, Column, Mesh, h₀}
use Rattle.member.specs.Accepted.{LoadWithin}
use Rattle.consistency.specs.Consistency.{flange_fits, compression_fits, depth_fits, load_fits, beam_consistent, column_consistent, mesh_consistent}

-- 8 of a beam
pub record Related (x : Beam) : Type 0 where
  pub flange : x.b ≤ x.bf
  pub web : x.bf ≡ x.b → x.hf ≡ 0
  pub slab : 2 * x.hf ≤ x.h
  pub no_compression : length x.compression ≡ 0 → x.a' ≡ 0
  pub faces : 2 * (x.aₛ + x.a') ≤ x.h
  pub cover : x.c < x.aₛ
  pub slender : x.l₀ ≤ 30 * h₀ x
  pub load_within : LoadWithin x.l₀ x.load

load_fits_within : (load : Load) (l₀ : ℕ) → load_fits load l₀ ≡ true → LoadWithin l₀ load
unfolding load_fits
load_fits_within Uniform l₀ e = tt
load_fits_within (Point a) l₀ e = leb-true _ _ e

module _ (x : Beam) where
  flange_thickness : flange_fits x ≡ true → (x.b ≤ x.bf) × (x.bf ≡ x.b → x.hf ≡ 0) × (2 * x.hf ≤ x.h)
  unfolding flange_fits
  flange_thickness e =
      let t = both_true (leb x.b x.bf) _ e in
      let c : (x.bf ≡ x.b → x.hf ≡ 0) × (2 * x.hf ≤ x.h) =
      if_case (λ (t : Bool). t ≡ true → (x.bf ≡ x.b → x.hf ≡ 0) × (2 * x.hf ≤ x.h)) (eqb x.bf x.b) _ _
      (λ _ u. let z = eqb-true x.hf 0 u in (λ _. z, omega arith))
      (λ n u. (λ f. absurd (false≢true (sym n ∙ eq-eqb _ _ f)), leb-true _ _ (both_true (leb 1 x.hf) _ u).1))
      t.1 in
      (leb-true _ _ t.0, c.0, c.1)

  no_compression : compression_fits x ≡ true → length x.compression ≡ 0 → x.a' ≡ 0
  unfolding compression_fits
  no_compression e z = eqb-true x.a' 0 (sym (rw (eq-eqb _ _ z)) ∙ e)

  depth : depth_fits x ≡ true → (2 * (x.aₛ + x.a') ≤ x.h) × (x.c < x.aₛ) × (x.l₀ ≤ 30 * h₀ x)
  unfolding depth_fits
  depth e =
      let t = both_true (leb (2 * (x.aₛ + x.a')) x.h) _ e in
      let u = both_true (ltb x.c x.aₛ) _ t.1 in
      (leb-true _ _ t.0, ltb-true _ _ u.0, leb-true _ _ u.1)

  pub related : beam_consistent x ≡ true → Related x
  unfolding beam_consistent
  related e =
      let t = both_true (flange_fits x) _ e in
      let u = both_true (compression_fits x) _ t.1 in
      let w = both_true (depth_fits x) _ u.1 in
      let f = flange_thickness t.0 in
      let d = depth w.0 in
      record {
        flange = f.0;
        web = f.1;
        slab = f.2;
        no_compression = no_compression u.0;
        faces = d.0;
        cover = d.1;
        slender = d.2;
        load_within = load_fits_within x.load x.l₀ w.1;
      }

-- 8 of a column
pub column_order : (x : Column) → column_consistent x ≡ true → x.b ≤ x.h
unfolding column_consistent
column_order x e = leb-true _ _ e

-- 8 of a mesh
pub apart_alone : (x : Mesh) → mesh_consistent x ≡ true → 1 ≤ x.cross → x.apart ≡ 0
unfolding mesh_consistent
apart_alone x e h =
    eqb-true x.apart 0 (sym (or-false (eqb x.apart 0)) ∙ ap (λ (b : Bool). eqb x.apart 0 || b) (sym (ne_eqb x.cross 0 (λ z. omega arith))) ∙ e)
