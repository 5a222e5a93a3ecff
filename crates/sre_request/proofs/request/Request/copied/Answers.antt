use Rattle.sre_request.proofs.request.Request.copied.Goals as goal

pub returns : goal.returns
returns g c = c.with_admitted.ensures c.args.self.now.all_admitted
