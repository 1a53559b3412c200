use Rattle.link_items.proofs.OrderLemmas.{device_goes_on, device_counts, device_numbers, host_goes_on, host_bounds, host_numbers}
use Rattle.link_items.proofs.laws.order_goes_on.Goals as goal

pub returns-clause-device : goal.returns-clause-device
returns-clause-device c = device_goes_on

pub returns-clause-device_counts : goal.returns-clause-device_counts
returns-clause-device_counts c = device_counts

pub returns-clause-device_numbers : goal.returns-clause-device_numbers
returns-clause-device_numbers c = device_numbers

pub returns-clause-host : goal.returns-clause-host
returns-clause-host c = host_goes_on

pub returns-clause-host_bounds : goal.returns-clause-host_bounds
returns-clause-host_bounds c = host_bounds

pub returns-clause-host_numbers : goal.returns-clause-host_numbers
returns-clause-host_numbers c = host_numbers
