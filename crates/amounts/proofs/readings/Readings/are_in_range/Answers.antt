use Rattle.std.proofs.Common.{◌≡◌, Bool, true, false, ◌&&◌, ◌∙◌, refl, arith}
use Rattle.terms.specs.declared.determinant.Determinant.TheVariants.{Vssvariol, Urllag, Urllead, Rtvar, Hsl, Lsl, Rtspp, Rthslaiec, Rtvssaiec, Rtmg}
use Rattle.terms.specs.Determinants.{admitted}
use Rattle.amounts.specs.Readings.{cost_in, ranged}
use Rattle.amounts.proofs.readings.Readings.are_in_range.Goals as goal

-- one test after another, and the same in groups
regroup : (a b c d x y z u v w : Bool) → (a && (b && (c && (d && (x && (y && (z && (u && (v && (w && true)))))))))) ≡ ((a && (b && (c && d))) && (x && (y && (z && (u && (v && w))))))
regroup false b c d x y z u v w = refl
regroup true false c d x y z u v w = refl
regroup true true false d x y z u v w = refl
regroup true true true false x y z u v w = refl
regroup true true true true x y z u v w = grind arith

pub returns : goal.returns
unfolding ranged
returns c =
    let r = c.args.self.now in
    let same = regroup (admitted Vssvariol r.vssvariol) (admitted Urllag r.urllag) (admitted Urllead r.urllead) (admitted Rtvar r.rtvar) (admitted Hsl r.hsl) (admitted Lsl r.lsl) (admitted Rtspp r.rtspp) (cost_in Rthslaiec r.rthslaiec) (cost_in Rtvssaiec r.rtvssaiec) (admitted Rtmg r.rtmg) in
    rw c.figures.ensures at c.all_in_range.ensures ∙ same
