-- Question 8 (document 01, "Questions before any check"; kind 4: document 02, wish 3), put to a whole member.
use Rattle.std.specs.Prelude.{ℕ, ◌+◌, ◌*◌, Bool, true, ◌&&◌, ◌||◌, leb, ltb, eqb, length, if◌then◌else◌}
use Rattle.member.specs.declared.Load.{Load}
use Rattle.member.specs.declared.Load.TheVariants.{Uniform, Point}
use Rattle.member.specs.Member.{Beam, Column, Mesh, h₀}

-- 8: bf ≥ b; hf = 0 if bf = b, else 1 ≤ hf ≤ h/2
unfoldable pub flange_fits : Beam → Bool
flange_fits x = leb x.b x.bf && (if eqb x.bf x.b then eqb x.hf 0 else leb 1 x.hf && leb (2 * x.hf) x.h)

-- 8: a' = 0 exactly without compression groups
unfoldable pub compression_fits : Beam → Bool
compression_fits x = if eqb (length x.compression) 0 then eqb x.a' 0 else ltb 0 x.a'

-- 8: as + a' ≤ h/2; c < as; l0 ≤ 30·h0
unfoldable pub depth_fits : Beam → Bool
depth_fits x = leb (2 * (x.aₛ + x.a')) x.h && (ltb x.c x.aₛ && leb x.l₀ (30 * h₀ x))

-- 8, kind 4: a ≤ l0
unfoldable pub load_fits : Load → ℕ → Bool
load_fits Uniform l₀ = true
load_fits (Point a) l₀ = leb a.0 l₀

unfoldable pub beam_consistent : Beam → Bool
beam_consistent x = flange_fits x && (compression_fits x && (depth_fits x && load_fits x.load x.l₀))

-- 8: b ≤ h
unfoldable pub column_consistent : Column → Bool
column_consistent x = leb x.b x.h

-- 8: apart = 0 unless cross bar = 0
unfoldable pub mesh_consistent : Mesh → Bool
mesh_consistent x = eqb x.apart 0 || eqb x.cross 0
