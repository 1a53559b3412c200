use Rattle.std.proofs.{Common.{◌∙◌, ap, sym}, lemmas.Result.on_ok_weaker}
use Rattle.std.specs.Prelude.{Ok, Result}
use Rattle.fis_view.specs.declared.view.{Fis.Fis, FisFault.FisFault}
use Rattle.disk_model.specs.{Histories.Received, Disks.{with_now, heard}}
use Rattle.disk_model.proofs.turns.MomentLemmas.{disk_goes_on, hears_register, hears_data, hears_nothing}
use Rattle.disk_model.proofs.disk.DiskDevice.on_frame.Goals as goal

pub returns-in-RegH2D-clause-ok : goal.returns-in-RegH2D-clause-ok
returns-in-RegH2D-clause-ok c =
    let v = c.args.self.now in
    let is = ap Ok (sym c.in-RegH2D.is) ∙ c.in-Ok.ensures.view in
    on_ok_weaker c.receive.result (λ e. disk_goes_on v _ (Received c.args.frame.now.bytes) tt (e ∙ ap (with_now v) (hears_register v.plan v.now _ _ _ is c.of.ensures.request))) c.receive.ensures.ok

pub returns-in-Payload-clause-ok : goal.returns-in-Payload-clause-ok
returns-in-Payload-clause-ok c =
    let v = c.args.self.now in
    let is = ap Ok (sym c.in-Payload.is) ∙ c.in-Ok.ensures.view in
    on_ok_weaker c.store.result (λ e. disk_goes_on v _ (Received c.args.frame.now.bytes) tt (e ∙ ap (with_now v) (hears_data v.plan v.now _ _ _ is c.payload.ensures.payload))) c.store.ensures.ok

pub returns-in-RegH2D-clause-no_memory : goal.returns-in-RegH2D-clause-no_memory
returns-in-RegH2D-clause-no_memory c =
    let m = c.args.self.now.now in
    let is = ap Ok (sym c.in-RegH2D.is) ∙ c.in-Ok.ensures.view in
    rw (← hears_register c.args.self.now.plan m _ _ _ is c.of.ensures.request) c.receive.ensures.no_memory

pub returns-in-Payload-clause-no_memory : goal.returns-in-Payload-clause-no_memory
returns-in-Payload-clause-no_memory c =
    let v = c.args.self.now in
    let is = ap Ok (sym c.in-Payload.is) ∙ c.in-Ok.ensures.view in
    rw (← hears_data v.plan v.now _ _ _ is c.payload.ensures.payload) c.store.ensures.no_memory

pub returns-in_default-clause-ok : goal.returns-in_default-clause-ok
returns-in_default-clause-ok c =
    let v = c.args.self.now in
    disk_goes_on v v (Received c.args.frame.now.bytes) tt (ap (λ (x : Result Fis FisFault). with_now v (heard v.plan v.now x)) c.in_default.ensures.view)

pub returns-in_default-fis : goal.returns-in_default-fis
returns-in_default-fis c =
    let v = c.args.self.now in
    let nothing = hears_nothing v.plan v.now c.in-Ok.fis c.in_default-fis.not-RegH2D c.in_default-fis.not-Payload in
    record {
      ok = disk_goes_on v v (Received c.args.frame.now.bytes) tt (ap (with_now v) (nothing ∙ ap (heard v.plan v.now) c.in-Ok.ensures.view));
      err = tt;
      no_memory = tt;
    }
